use Rattle.wf_core_laws.proofs.FirstStop.{front_goes_on_where_nothing_overflows}
use Rattle.wf_core_laws.proofs.stops.front_goes_on_where_nothing_overflows.Goals as goal

pub returns : goal.returns
returns c = front_goes_on_where_nothing_overflows
