use Rattle.wf_registry_laws.proofs.Named.{levels_have_the_extents}
use Rattle.wf_registry_laws.proofs.levels_have_the_extents.Goals as goal

pub returns : goal.returns
returns c = levels_have_the_extents
