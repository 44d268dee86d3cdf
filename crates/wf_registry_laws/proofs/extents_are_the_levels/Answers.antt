use Rattle.wf_registry_laws.proofs.Extents.{extents_are_the_levels}
use Rattle.wf_registry_laws.proofs.extents_are_the_levels.Goals as goal

pub returns : goal.returns
returns c = extents_are_the_levels
