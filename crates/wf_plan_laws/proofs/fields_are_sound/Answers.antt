use Rattle.wf_plan_laws.proofs.Levels.{fields_are_sound}
use Rattle.wf_plan_laws.proofs.fields_are_sound.Goals as goal

pub returns : goal.returns
returns c = fields_are_sound
