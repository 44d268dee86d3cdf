use Rattle.wf_registry_laws.proofs.Pairs.{pairs_are_sound}
use Rattle.wf_registry_laws.proofs.pairs_are_sound.Goals as goal

pub returns : goal.returns
returns c = pairs_are_sound
