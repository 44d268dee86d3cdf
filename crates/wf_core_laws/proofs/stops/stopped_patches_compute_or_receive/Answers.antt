use Rattle.wf_core_laws.proofs.StopsKept.{stopped_patches_compute_or_receive}
use Rattle.wf_core_laws.proofs.stops.stopped_patches_compute_or_receive.Goals as goal

pub returns : goal.returns
returns c = stopped_patches_compute_or_receive
