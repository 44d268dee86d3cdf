use Rattle.std.proofs.Common.{◌-◌, refl, sym, subst, ◌<◌, ℕ, arith}
use Rattle.std.proofs.lemmas.Int.{ints}
use Rattle.std.specs.Prelude.{◌-ℤ◌, unsigned_abs}
use Rattle.wf_boxes.specs.Places.{cells_of}
use Rattle.wf_boxes.proofs.Placing.{place_below, place_same}
use Rattle.wf_boxes.proofs.places.place.Goals as goal

pub place_in-requires-clause-fits : goal.place_in-requires-clause-fits
place_in-requires-clause-fits c =
    let s = c.args.bounds.now in
    less (place_below (c.args.k - 1) c.steps-row.result c.steps-column.result s.levels s.rows s.columns (cells_of s) refl
    (let w = (c.requires.cell).level in omega (arith, w.0, w.1)) c.steps-row.ensures.below c.steps-column.ensures.below) c.requires.fits
  where
    less : {a b d : ℕ} → a < b → b < d → a < d
    less h l = omega (arith, h, l)

pub returns-clause-value : goal.returns-clause-value
returns-clause-value c =
    let s = c.args.bounds.now in
    place_same (c.args.k - 1) c.steps-row.result c.steps-column.result (unsigned_abs (c.args.j -ℤ s.south)) (unsigned_abs (c.args.i -ℤ s.west)) s.rows s.columns c.place_in.result c.place_in.ensures
    (omega (arith, ints, c.steps-row.ensures.value)) (omega (arith, ints, c.steps-column.ensures.value))

pub returns-clause-inside : goal.returns-clause-inside
returns-clause-inside c =
    let s = c.args.bounds.now in
    subst (λ (n : ℕ). n < cells_of s) (sym c.place_in.ensures)
    (place_below (c.args.k - 1) c.steps-row.result c.steps-column.result s.levels s.rows s.columns (cells_of s) refl
    (let w = (c.requires.cell).level in omega (arith, w.0, w.1)) c.steps-row.ensures.below c.steps-column.ensures.below)
