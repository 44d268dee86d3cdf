use Rattle.wf_registry_laws.proofs.Named.{names_are_the_levels}
use Rattle.wf_registry_laws.proofs.names_are_the_levels.Goals as goal

pub returns : goal.returns
returns c = names_are_the_levels
