use Rattle.wf_rect_laws.proofs.RowRanges.{listed_by_rows}
use Rattle.wf_rect_laws.proofs.patches.patches_are_listed_by_rows.Goals as goal

pub returns : goal.returns
returns c = listed_by_rows
