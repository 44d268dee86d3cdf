use Rattle.std.proofs.Common.{◌≡◌, drop}
use Rattle.wf_model.specs.Frames.{outputs_from}
use Rattle.wf_stream.proofs.frames.next_output.Given as goal

abbrev pub invariant-loop-place : goal.invariant-loop-place
invariant-loop-place l = outputs_from l.from (drop l.from l.script) ≡ outputs_from l.place (drop l.place l.script)
