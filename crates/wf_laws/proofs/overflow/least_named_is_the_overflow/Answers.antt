use Rattle.wf_laws.proofs.StopLaws.{least_overflow}
use Rattle.wf_laws.proofs.overflow.least_named_is_the_overflow.Goals as goal

pub returns : goal.returns
returns c = least_overflow
