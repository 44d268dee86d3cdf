use Rattle.wf_core_laws.proofs.Interleavings.{lost_messages_are_of_stopped_patches}
use Rattle.wf_core_laws.proofs.states.lost_messages_are_of_stopped_patches.Goals as goal

pub returns : goal.returns
returns c = lost_messages_are_of_stopped_patches
