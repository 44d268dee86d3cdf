use Rattle.wf_table_laws.proofs.BoundNames.{bound_tables}
use Rattle.wf_table_laws.proofs.bound_tables_are_sound.Goals as goal

pub returns : goal.returns
returns c = bound_tables
