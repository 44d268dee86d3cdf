use Rattle.wf_core_laws.proofs.FirstStop.{first_stop_is_at_the_first_overflow}
use Rattle.wf_core_laws.proofs.stops.first_stop_is_at_the_first_overflow.Goals as goal

pub returns : goal.returns
returns c = first_stop_is_at_the_first_overflow
