use Rattle.wf_plan_laws.proofs.Items.{items_are_sound}
use Rattle.wf_plan_laws.proofs.items_are_sound.Goals as goal

pub returns : goal.returns
returns c = items_are_sound
