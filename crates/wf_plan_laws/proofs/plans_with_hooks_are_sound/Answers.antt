use Rattle.wf_plan_laws.proofs.Plans.{plans_with_hooks_are_sound}
use Rattle.wf_plan_laws.proofs.plans_with_hooks_are_sound.Goals as goal

pub returns : goal.returns
returns c = plans_with_hooks_are_sound
