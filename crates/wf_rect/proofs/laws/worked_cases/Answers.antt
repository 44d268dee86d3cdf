use Rattle.wf_rect.proofs.Cases.{worked}
use Rattle.wf_rect.proofs.laws.worked_cases.Goals as goal

pub returns : goal.returns
returns c = worked
