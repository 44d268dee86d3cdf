use Rattle.wf_laws.proofs.Owners.{own_points}
use Rattle.wf_laws.proofs.ownership.own_cells_are_points.Goals as goal

pub returns : goal.returns
returns c = own_points
