use Rattle.wf_core_laws.proofs.FirstStop.{patches_stop_where_they_name_a_point}
use Rattle.wf_core_laws.proofs.stops.patches_stop_where_they_name_a_point.Goals as goal

pub returns : goal.returns
returns c = patches_stop_where_they_name_a_point
