use Rattle.wf_core_laws.proofs.StopOrder.{least_stop_is_the_first_overflow}
use Rattle.wf_core_laws.proofs.stops.least_stop_is_the_first_overflow.Goals as goal

pub returns : goal.returns
returns c = least_stop_is_the_first_overflow
