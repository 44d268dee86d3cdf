use Rattle.wf_table_laws.proofs.Follows.{names_differ}
use Rattle.wf_table_laws.proofs.phase_names_differ.Goals as goal

pub returns : goal.returns
returns c = names_differ
