use Rattle.wf_core_laws.proofs.StopOrder.{full_lists_stop_at_the_overflow}
use Rattle.wf_core_laws.proofs.stops.full_lists_stop_at_the_overflow.Goals as goal

pub returns : goal.returns
returns c = full_lists_stop_at_the_overflow
