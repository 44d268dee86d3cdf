use Rattle.wf_core_laws.proofs.Interleavings.{every_reachable_state_is_canonical}
use Rattle.wf_core_laws.proofs.states.every_reachable_state_is_canonical.Goals as goal

pub returns : goal.returns
returns c = every_reachable_state_is_canonical
