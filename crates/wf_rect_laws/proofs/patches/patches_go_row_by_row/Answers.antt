use Rattle.wf_rect_laws.proofs.PatchBlocks.{row_by_row}
use Rattle.wf_rect_laws.proofs.patches.patches_go_row_by_row.Goals as goal

pub returns : goal.returns
returns c = row_by_row
