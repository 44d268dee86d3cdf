use Rattle.wf_registry_laws.proofs.Extents.{extents_are_numbered}
use Rattle.wf_registry_laws.proofs.extents_are_numbered.Goals as goal

pub returns : goal.returns
returns c = extents_are_numbered
