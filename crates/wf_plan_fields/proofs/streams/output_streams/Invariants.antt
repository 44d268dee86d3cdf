use Rattle.std.proofs.Common.{◌≡◌, take}
use Rattle.std.specs.List.{flat_map}
use Rattle.wf_model.specs.Io.{output_streams}
use Rattle.wf_plan_fields.specs.IoParts.{part_of}
use Rattle.wf_plan_fields.proofs.streams.output_streams.Given as goal

abbrev pub invariant-loop-part : goal.invariant-loop-part
invariant-loop-part l = l.streams.items ≡ flat_map (λ p. output_streams (part_of p)) (take l.part-index l.parts)
