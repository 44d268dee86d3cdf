use Rattle.wf_registry_laws.proofs.Named.{level_names_are_distinct}
use Rattle.wf_registry_laws.proofs.level_names_are_distinct.Goals as goal

pub returns : goal.returns
returns c = level_names_are_distinct
