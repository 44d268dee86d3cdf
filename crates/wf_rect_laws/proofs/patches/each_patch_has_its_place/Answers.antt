use Rattle.wf_rect_laws.proofs.PatchBlocks.{each_place}
use Rattle.wf_rect_laws.proofs.patches.each_patch_has_its_place.Goals as goal

pub returns : goal.returns
returns c = each_place
