use Rattle.wf_plan_laws.proofs.Plans.{tested_plans_are_sound}
use Rattle.wf_plan_laws.proofs.tested_plans_are_sound.Goals as goal

pub returns : goal.returns
returns c = tested_plans_are_sound
