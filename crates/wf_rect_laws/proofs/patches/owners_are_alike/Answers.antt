use Rattle.wf_rect_laws.proofs.PatchBlocks.{owners}
use Rattle.wf_rect_laws.proofs.patches.owners_are_alike.Goals as goal

pub returns : goal.returns
returns c = owners
