use Rattle.wf_registry_laws.proofs.FileNames.{file_variables_are_distinct}
use Rattle.wf_registry_laws.proofs.file_variables_are_distinct.Goals as goal

pub returns : goal.returns
returns c = file_variables_are_distinct
