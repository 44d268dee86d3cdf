use Rattle.wf_table_laws.proofs.Margins.{margins_small}
use Rattle.wf_table_laws.proofs.margins_are_small.Goals as goal

pub returns : goal.returns
returns c = margins_small
