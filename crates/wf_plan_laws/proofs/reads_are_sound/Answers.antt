use Rattle.wf_plan_laws.proofs.SoundReads.{reads_are_sound}
use Rattle.wf_plan_laws.proofs.reads_are_sound.Goals as goal

pub returns : goal.returns
returns c = reads_are_sound
