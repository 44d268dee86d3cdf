use Rattle.wf_table_laws.proofs.NamesOfConfig.{names_ranged}
use Rattle.wf_table_laws.proofs.names_are_ranged.Goals as goal

pub returns : goal.returns
returns c = names_ranged
