use Rattle.wf_rect_laws.proofs.PatchBlocks.{own_boxes}
use Rattle.wf_rect_laws.proofs.patches.own_boxes_are_blocks.Goals as goal

pub returns : goal.returns
returns c = own_boxes
