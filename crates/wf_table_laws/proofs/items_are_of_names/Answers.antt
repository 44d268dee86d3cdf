use Rattle.wf_table_laws.proofs.Follows.{items_of_names}
use Rattle.wf_table_laws.proofs.items_are_of_names.Goals as goal

pub returns : goal.returns
returns c = items_of_names
