use Rattle.std.proofs.Common.{set, ◌∙◌, w64, w32}
use Rattle.std.proofs.lemmas.Int.{to_z-of_z}
use Rattle.wf_boxes.specs.Places.{place_of}
use Rattle.wf_field.specs.Kept.{box_at}
use Rattle.wf_field.proofs.Changing.{lent_level}
use Rattle.wf_field.proofs.numbers.put_in.Goals as goal

pub returns : goal.returns
returns c =
    let a = c.args in
    lent_level a.levels.now a.field c.index-levels-field.result c.as_mut_slice.result.now c.put_at.new.list (place_of (box_at a.boxes.now a.field) a.k a.j a.i) a.value
    (c.requires.level).list c.index-levels-field.is c.as_mut_slice.ensures.value
    (c.put_at.ensures ∙ (λ n. set c.as_mut_slice.result.now (place_of (box_at a.boxes.now a.field) a.k (to_z-of_z w64 a.j c.ranges.j n) (to_z-of_z w64 a.i c.ranges.i n)) (to_z-of_z w32 a.value c.ranges.value n)))
