use Rattle.wf_table_laws.proofs.Follows.{crosses_narrow}
use Rattle.wf_table_laws.proofs.crosses_are_narrow.Goals as goal

pub returns : goal.returns
returns c = crosses_narrow
