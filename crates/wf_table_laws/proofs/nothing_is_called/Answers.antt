use Rattle.wf_table_laws.proofs.Follows.{calls_nothing}
use Rattle.wf_table_laws.proofs.nothing_is_called.Goals as goal

pub returns : goal.returns
returns c = calls_nothing
