use Rattle.wf_table_laws.proofs.BoundNames.{bound_names}
use Rattle.wf_table_laws.proofs.bound_names_are_ranged.Goals as goal

pub returns : goal.returns
returns c = bound_names
