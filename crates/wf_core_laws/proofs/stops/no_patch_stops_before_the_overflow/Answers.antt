use Rattle.wf_core_laws.proofs.StopOrder.{no_patch_stops_before_the_overflow}
use Rattle.wf_core_laws.proofs.stops.no_patch_stops_before_the_overflow.Goals as goal

pub returns : goal.returns
returns c = no_patch_stops_before_the_overflow
