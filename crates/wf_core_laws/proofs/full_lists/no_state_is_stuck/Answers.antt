use Rattle.wf_core_laws.proofs.Interleavings.{no_state_is_stuck}
use Rattle.wf_core_laws.proofs.full_lists.no_state_is_stuck.Goals as goal

pub returns : goal.returns
returns c = no_state_is_stuck
