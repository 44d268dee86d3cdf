use Rattle.wf_file_laws.proofs.DimNames.{plans_have_file_names}
use Rattle.wf_file_laws.proofs.plans_have_file_names.Goals as goal

pub returns : goal.returns
returns c = plans_have_file_names
