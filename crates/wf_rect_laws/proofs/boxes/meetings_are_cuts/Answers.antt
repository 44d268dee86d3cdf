use Rattle.wf_rect_laws.proofs.SameBoxes.{cut_alike}
use Rattle.wf_rect_laws.proofs.boxes.meetings_are_cuts.Goals as goal

pub returns : goal.returns
returns c = cut_alike
