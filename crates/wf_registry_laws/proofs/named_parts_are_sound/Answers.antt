use Rattle.wf_registry_laws.proofs.Parts.{named_parts_are_sound}
use Rattle.wf_registry_laws.proofs.named_parts_are_sound.Goals as goal

pub returns : goal.returns
returns c = named_parts_are_sound
