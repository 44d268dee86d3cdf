use Rattle.wf_laws.proofs.OutcomeLaws.{all_written}
use Rattle.wf_laws.proofs.outcomes.all_frames_are_written.Goals as goal

pub returns : goal.returns
returns c = all_written
