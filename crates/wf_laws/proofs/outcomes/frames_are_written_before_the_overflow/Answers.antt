use Rattle.wf_laws.proofs.OutcomeLaws.{written_before}
use Rattle.wf_laws.proofs.outcomes.frames_are_written_before_the_overflow.Goals as goal

pub returns : goal.returns
returns c = written_before
