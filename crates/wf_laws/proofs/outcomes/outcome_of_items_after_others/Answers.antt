use Rattle.wf_laws.proofs.OutcomeLaws.{after_others}
use Rattle.wf_laws.proofs.outcomes.outcome_of_items_after_others.Goals as goal

pub returns : goal.returns
returns c = after_others
