use Rattle.wf_laws.proofs.Refusal.{read_test}
use Rattle.wf_laws.proofs.halo_rule.read_test_is_the_rule.Goals as goal

pub returns : goal.returns
returns c = read_test
