use Rattle.wf_table_laws.proofs.Follows.{items_ranged}
use Rattle.wf_table_laws.proofs.items_are_ranged.Goals as goal

pub returns : goal.returns
returns c = items_ranged
