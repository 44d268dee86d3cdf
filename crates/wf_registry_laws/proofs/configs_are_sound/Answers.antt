use Rattle.wf_registry_laws.proofs.Configs.{configs_are_sound}
use Rattle.wf_registry_laws.proofs.configs_are_sound.Goals as goal

pub returns : goal.returns
returns c = configs_are_sound
