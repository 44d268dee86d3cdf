use Rattle.wf_core_laws.proofs.Interleavings.{lists_are_bounded}
use Rattle.wf_core_laws.proofs.events.lists_are_bounded.Goals as goal

pub returns : goal.returns
returns c = lists_are_bounded
