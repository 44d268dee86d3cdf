use Rattle.std.proofs.Common.{ℕ, ap, ◌∙◌, w64, rules}
use Rattle.std.proofs.lemmas.Int.{to_z-of_z}
use Rattle.std.specs.Prelude.{pos}
use Rattle.wf_model.specs.Patches.{in_box}
use Rattle.wf_boxes.specs.Boxes.{box_of}
use Rattle.wf_halo.specs.Parts.{is_fetched, row_of, column_of}
use Rattle.wf_halo.proofs.Tests.{and_then, and_not}
use Rattle.wf_halo.proofs.parts.is_sent.Goals as goal

pub returns-then-is_fetched : goal.returns-then-is_fetched
returns-then-is_fetched c =
    let a = c.args in
    let p = a.part.now in
    let fetched = c.is_fetched.ensures ∙ (λ n. is_fetched p (to_z-of_z w64 a.j c.ranges.j n) (to_z-of_z w64 a.i c.ranges.i n)) in
    let y = to_z-of_z w64 c.from.result (search rules) ∙ c.from.ensures ∙ ap (λ (m : ℕ). pos m) (c.row_of.ensures ∙ ap (row_of p) (to_z-of_z w64 a.j c.ranges.j)) in
    let x = to_z-of_z w64 c.from-then-is_fetched.result (search rules) ∙ c.from-then-is_fetched.ensures ∙ ap (λ (m : ℕ). pos m) (c.column_of.ensures ∙ ap (column_of p) (to_z-of_z w64 a.i c.ranges.i)) in
    and_then fetched (c.has.ensures ∙ (λ n. in_box (box_of p.from) (y n) (x n))) c.if-is_fetched.true

pub returns-else-is_fetched : goal.returns-else-is_fetched
returns-else-is_fetched c =
    let a = c.args in
    let p = a.part.now in
    let fetched = c.is_fetched.ensures ∙ (λ n. is_fetched p (to_z-of_z w64 a.j c.ranges.j n) (to_z-of_z w64 a.i c.ranges.i n)) in
    and_not (in_box (box_of p.from) (pos (row_of p a.j)) (pos (column_of p a.i))) fetched c.if-is_fetched.false
