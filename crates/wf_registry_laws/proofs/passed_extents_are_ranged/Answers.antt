use Rattle.wf_registry_laws.proofs.Extents.{passed_extents_are_ranged}
use Rattle.wf_registry_laws.proofs.passed_extents_are_ranged.Goals as goal

pub returns : goal.returns
returns c = passed_extents_are_ranged
