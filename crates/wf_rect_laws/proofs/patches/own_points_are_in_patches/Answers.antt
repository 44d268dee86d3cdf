use Rattle.wf_rect_laws.proofs.PatchBlocks.{own_points}
use Rattle.wf_rect_laws.proofs.patches.own_points_are_in_patches.Goals as goal

pub returns : goal.returns
returns c = own_points
