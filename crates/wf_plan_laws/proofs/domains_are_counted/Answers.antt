use Rattle.wf_plan_laws.proofs.Single.{domains_are_counted}
use Rattle.wf_plan_laws.proofs.domains_are_counted.Goals as goal

pub returns : goal.returns
returns c = domains_are_counted
