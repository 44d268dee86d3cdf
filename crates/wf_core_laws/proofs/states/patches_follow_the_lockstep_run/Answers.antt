use Rattle.wf_core_laws.proofs.Interleavings.{patches_follow_the_lockstep_run}
use Rattle.wf_core_laws.proofs.states.patches_follow_the_lockstep_run.Goals as goal

pub returns : goal.returns
returns c = patches_follow_the_lockstep_run
