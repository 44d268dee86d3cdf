use Rattle.wf_core_laws.proofs.Interleavings.{frames_written_are_the_first}
use Rattle.wf_core_laws.proofs.states.frames_written_are_the_first.Goals as goal

pub returns : goal.returns
returns c = frames_written_are_the_first
