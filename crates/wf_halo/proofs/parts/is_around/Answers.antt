use Rattle.std.proofs.Common.{sym, ◌∙◌, w64}
use Rattle.std.proofs.lemmas.Int.{to_z-of_z}
use Rattle.wf_model.specs.Patches.{grown_box, in_box}
use Rattle.wf_laws.proofs.Bools.{if_true, if_false}
use Rattle.wf_boxes.specs.Boxes.{box_of}
use Rattle.wf_halo.proofs.Tests.{or_then, or_else}
use Rattle.wf_halo.proofs.parts.is_around.Goals as goal

pub returns-then-has : goal.returns-then-has
returns-then-has c =
    let a = c.args in
    let own = box_of a.part.now.to in
    let one = c.has.ensures ∙ (λ n. in_box (c.grown.ensures n) (to_z-of_z w64 a.j c.ranges.j n) (to_z-of_z w64 a.i c.ranges.i n)) in
    or_then (in_box (grown_box 0 1 own) a.j a.i) one c.if-has.true ∙ sym (if_true a.part.now.cross _ _ c.if-part.true)

pub returns-else-has : goal.returns-else-has
returns-else-has c =
    let a = c.args in
    let one = c.has.ensures ∙ (λ n. in_box (c.grown.ensures n) (to_z-of_z w64 a.j c.ranges.j n) (to_z-of_z w64 a.i c.ranges.i n)) in
    let two = c.has-else-has.ensures ∙ (λ n. in_box (c.grown-else-has.ensures n) (to_z-of_z w64 a.j c.ranges.j n) (to_z-of_z w64 a.i c.ranges.i n)) in
    or_else one two c.if-has.false ∙ sym (if_true a.part.now.cross _ _ c.if-part.true)

pub returns-else-part : goal.returns-else-part
returns-else-part c =
    let a = c.args in
    c.has-else-part.ensures ∙ (λ n. in_box (c.grown-else-part.ensures n) (to_z-of_z w64 a.j c.ranges.j n) (to_z-of_z w64 a.i c.ranges.i n))
    ∙ sym (if_false a.part.now.cross _ _ c.if-part.false)
