use Rattle.wf_registry_laws.proofs.Ranged.{levels_are_ranged}
use Rattle.wf_registry_laws.proofs.levels_are_ranged.Goals as goal

pub returns : goal.returns
returns c = levels_are_ranged
