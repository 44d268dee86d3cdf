use Rattle.std.proofs.Common.{◌≡◌, ℕ, ◌<◌, length}
use Rattle.wf_model.specs.Patches.{split_of}
use Rattle.wf_boxes.specs.Places.{IsLevelBox}
use Rattle.wf_field.specs.Kept.{box_at}
use Rattle.wf_field.proofs.making.level_boxes.Given as goal

abbrev pub invariant-loop-field : goal.invariant-loop-field
invariant-loop-field l = record {
  count : length l.boxes.items ≡ l.field;
  each : (f : ℕ) → f < l.field → IsLevelBox l.patch.plan.now (split_of l.patch.layout.now) l.patch.domain l.patch.number f (box_at l.boxes.items f);
}
