use Rattle.wf_rect_laws.proofs.SameBoxes.{hold_alike}
use Rattle.wf_rect_laws.proofs.boxes.boxes_hold_alike.Goals as goal

pub returns : goal.returns
returns c = hold_alike
