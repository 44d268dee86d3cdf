use Rattle.wf_table_laws.proofs.Follows.{exchanges_sound}
use Rattle.wf_table_laws.proofs.exchanges_are_sound.Goals as goal

pub returns : goal.returns
returns c = exchanges_sound
