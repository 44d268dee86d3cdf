use Rattle.wf_table_laws.proofs.NamesOfConfig.{names_levels}
use Rattle.wf_table_laws.proofs.names_use_levels.Goals as goal

pub returns : goal.returns
returns c = names_levels
