use Rattle.wf_plan_laws.proofs.Items.{phases_name_levels}
use Rattle.wf_plan_laws.proofs.phases_name_levels.Goals as goal

pub returns : goal.returns
returns c = phases_name_levels
