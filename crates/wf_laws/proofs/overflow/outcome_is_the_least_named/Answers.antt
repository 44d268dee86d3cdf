use Rattle.wf_laws.proofs.StopLaws.{outcome_least}
use Rattle.wf_laws.proofs.overflow.outcome_is_the_least_named.Goals as goal

pub returns : goal.returns
returns c = outcome_least
