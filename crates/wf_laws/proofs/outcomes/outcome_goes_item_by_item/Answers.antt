use Rattle.wf_laws.proofs.OutcomeLaws.{item_by_item}
use Rattle.wf_laws.proofs.outcomes.outcome_goes_item_by_item.Goals as goal

pub returns : goal.returns
returns c = item_by_item
