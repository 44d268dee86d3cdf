use Rattle.std.proofs.Common.{ℕ, ◌+◌, ◌≤◌, List, length, sym, subst, ◌∙◌, w64}
use Rattle.std.proofs.lemmas.Int.{to_z-of_z}
use Rattle.std.specs.Prelude.{ℤ}
use Rattle.wf_boxes.specs.Places.{place_of}
use Rattle.wf_boxes.proofs.Placing.{row_fits}
use Rattle.wf_model.specs.Kept.{level_kept}
use Rattle.wf_field.specs.Kept.{box_at}
use Rattle.wf_field.specs.Rows.{with_row}
use Rattle.wf_field.proofs.Changing.{lent_level_by}
use Rattle.wf_field.proofs.RowsPut.{length-with_row}
use Rattle.wf_field.proofs.rows.put_row_in.Goals as goal

pub returns : goal.returns
returns c =
    let a = c.args in
    let s = box_at a.boxes.now a.field in
    let at : ℕ = place_of s a.k a.j a.i in
    let xs = level_kept a.levels.now a.field in
    let fits : at + length a.values.now ≤ length xs = subst (λ (n : ℕ). at + length a.values.now ≤ n) (sym (c.requires.level).size) (row_fits s a.k (length a.values.now) a.j a.i c.requires.row) in
    lent_level_by (λ (l : List ℤ). with_row l at a.values.now) a.levels.now a.field c.index-levels-field.result c.as_mut_slice.result.now c.put_row.new.list
    (c.requires.level).list c.index-levels-field.is c.as_mut_slice.ensures.value (length-with_row xs a.values.now at fits)
    (c.put_row.ensures ∙ (λ n. with_row c.as_mut_slice.result.now (place_of s a.k (to_z-of_z w64 a.j c.ranges.j n) (to_z-of_z w64 a.i c.ranges.i n)) a.values.now))
