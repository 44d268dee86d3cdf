use Rattle.wf_table_laws.proofs.Follows.{items_levels}
use Rattle.wf_table_laws.proofs.items_use_levels.Goals as goal

pub returns : goal.returns
returns c = items_levels
