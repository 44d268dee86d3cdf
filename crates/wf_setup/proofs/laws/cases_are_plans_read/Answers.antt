use Rattle.wf_setup.proofs.PlansRead.{cases_are_plans_read}
use Rattle.wf_setup.proofs.laws.cases_are_plans_read.Goals as goal

pub returns : goal.returns
returns c = cases_are_plans_read
