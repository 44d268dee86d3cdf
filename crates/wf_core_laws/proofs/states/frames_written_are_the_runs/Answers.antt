use Rattle.wf_core_laws.proofs.RunFrames.{frames_written_are_the_runs}
use Rattle.wf_core_laws.proofs.states.frames_written_are_the_runs.Goals as goal

pub returns : goal.returns
returns c = frames_written_are_the_runs
