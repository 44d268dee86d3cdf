use Rattle.std.proofs.Common.{◌∙◌}
use Rattle.std.proofs.lemmas.Option.{slice_get-get_or}
use Rattle.wf_stream.proofs.FrameSteps.{outputs-found, outputs-passed, outputs-end}
use Rattle.wf_stream.proofs.frames.next_output.Goals as goal

pub returns-in-Emit-clause-found : goal.returns-in-Emit-clause-found
returns-in-Emit-clause-found c = c.loop-place.invariant ∙ outputs-found c.args.script.now c.loop-place.place c.in-Emit.stream _ c.loop-place-test.true c.in-Emit.is

pub returns-in-Emit-clause-entry : goal.returns-in-Emit-clause-entry
returns-in-Emit-clause-entry c = slice_get-get_or c.args.script.now c.loop-place.place _ c.loop-place-test.true

pub loop-place-preserved : goal.loop-place-preserved
loop-place-preserved c = c.loop-place.invariant ∙ outputs-passed c.args.script.now c.loop-place.place _ c.loop-place-test.true c.in_default.not-Emit

pub returns-clause-none : goal.returns-clause-none
returns-clause-none c = c.loop-place.invariant ∙ outputs-end c.args.script.now c.loop-place.place c.loop-place-test.false
