use Rattle.wf_core_laws.proofs.Interleavings.{enabled_events_stay_enabled}
use Rattle.wf_core_laws.proofs.events.enabled_events_stay_enabled.Goals as goal

pub returns : goal.returns
returns c = enabled_events_stay_enabled
