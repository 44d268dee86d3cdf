use Rattle.wf_laws.proofs.PatchLaws.{read_fresh_cells}
use Rattle.wf_laws.proofs.patches.phases_read_fresh_cells.Goals as goal

pub returns : goal.returns
returns c = read_fresh_cells
