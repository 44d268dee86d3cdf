use Rattle.wf_plan_laws.proofs.Limits.{limits_are_kept}
use Rattle.wf_plan_laws.proofs.limits_are_kept.Goals as goal

pub returns : goal.returns
returns c = limits_are_kept
