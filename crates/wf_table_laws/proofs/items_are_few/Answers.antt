use Rattle.wf_table_laws.proofs.Follows.{items_few}
use Rattle.wf_table_laws.proofs.items_are_few.Goals as goal

pub returns : goal.returns
returns c = items_few
