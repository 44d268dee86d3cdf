use Rattle.wf_core_laws.proofs.Interleavings.{lockstep_run_is_the_front}
use Rattle.wf_core_laws.proofs.front.lockstep_run_is_the_front.Goals as goal

pub returns : goal.returns
returns c = lockstep_run_is_the_front
