use Rattle.wf_laws.proofs.FirstOverflow.{first_is}
use Rattle.wf_laws.proofs.outcomes.first_overflow_is_its_items.Goals as goal

pub returns : goal.returns
returns c = first_is
