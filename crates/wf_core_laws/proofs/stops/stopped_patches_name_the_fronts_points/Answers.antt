use Rattle.wf_core_laws.proofs.StopsKept.{stopped_patches_name_the_fronts_points}
use Rattle.wf_core_laws.proofs.stops.stopped_patches_name_the_fronts_points.Goals as goal

pub returns : goal.returns
returns c = stopped_patches_name_the_fronts_points
