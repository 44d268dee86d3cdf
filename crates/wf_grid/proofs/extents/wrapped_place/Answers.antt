use Rattle.std.proofs.Common.{◌≡◌, true, arith}
use Rattle.std.proofs.lemmas.Int.{ints}
use Rattle.std.specs.Prelude.{pos, ◌+ℤ◌, FitsSigned}
use mir.Syntax.{w64}
use Rattle.wf_grid.proofs.Wrapping.{wrap_is}
use Rattle.wf_grid.proofs.extents.wrapped_place.Goals as goal
use Rattle.wf_grid.proofs.extents.wrapped_place.Goals.{then-not-periodic, else-not-periodic+then-place-ge1, else-not-periodic+else-place-ge1}

-- the place wraps in periodic directions alone
is_periodic : (c : goal.After-rem_euclid) → c.args.periodic ≡ true
is_periodic c = elim c.if-not-periodic.branch [
  | then-not-periodic w ↦ cc
  | else-not-periodic+then-place-ge1 w ↦ cc
  | else-not-periodic+else-place-ge1 w ↦ cc
]

pub returns-else-place-count-clause-value : goal.returns-else-place-count-clause-value
returns-else-place-count-clause-value c =
    let fits : FitsSigned w64 c.rem_euclid.result = record { sfits = c.rem_euclid.type_inv } in
    wrap_is c.args.periodic c.args.count (pos c.args.from +ℤ c.args.by) c.rem_euclid.result _ _ c.rem_euclid.ensures.value fits (is_periodic c) (omega (arith, ints)) (omega (arith, ints))
