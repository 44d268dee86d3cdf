use Rattle.wf_laws.proofs.StopLaws.{named_points}
use Rattle.wf_laws.proofs.overflow.named_points_overflow.Goals as goal

pub returns : goal.returns
returns c = named_points
