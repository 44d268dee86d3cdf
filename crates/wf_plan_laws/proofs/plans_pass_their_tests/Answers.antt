use Rattle.wf_plan_laws.proofs.Tests.{plans_pass_their_tests}
use Rattle.wf_plan_laws.proofs.plans_pass_their_tests.Goals as goal

pub returns : goal.returns
returns c = plans_pass_their_tests
