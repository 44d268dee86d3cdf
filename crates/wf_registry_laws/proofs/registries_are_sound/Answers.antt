use Rattle.wf_registry_laws.proofs.Registries.{registries_are_sound}
use Rattle.wf_registry_laws.proofs.registries_are_sound.Goals as goal

pub returns : goal.returns
returns c = registries_are_sound
