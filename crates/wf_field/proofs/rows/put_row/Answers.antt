use Rattle.std.proofs.Common.{ℕ, ◌+◌, ◌≤◌, length, sym, subst, ◌∙◌, w64}
use Rattle.std.proofs.lemmas.Int.{to_z-of_z}
use Rattle.wf_boxes.specs.Places.{place_of}
use Rattle.wf_boxes.proofs.Placing.{row_fits}
use Rattle.wf_field.proofs.rows.put_row.Goals as goal

pub paste-requires : goal.paste-requires
paste-requires c =
    let a = c.args in
    let at = c.place-at.ensures.value ∙ (λ n. place_of a.bounds.now a.k (to_z-of_z w64 a.j c.ranges.j n) (to_z-of_z w64 a.i c.ranges.i n)) in
    subst (λ (q : ℕ). q + length a.values.now ≤ length a.list.now) (sym at)
    (subst (λ (q : ℕ). place_of a.bounds.now a.k a.j a.i + length a.values.now ≤ q) (sym c.requires.size) (row_fits a.bounds.now a.k (length a.values.now) a.j a.i c.requires.row))
