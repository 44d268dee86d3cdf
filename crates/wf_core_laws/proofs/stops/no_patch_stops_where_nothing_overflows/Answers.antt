use Rattle.wf_core_laws.proofs.StopOrder.{no_patch_stops_where_nothing_overflows}
use Rattle.wf_core_laws.proofs.stops.no_patch_stops_where_nothing_overflows.Goals as goal

pub returns : goal.returns
returns c = no_patch_stops_where_nothing_overflows
