use Rattle.wf_cdf_laws.proofs.Frames.{frames_again}
use Rattle.wf_cdf_laws.proofs.frames_are_read_again.Goals as goal

pub returns : goal.returns
returns c = frames_again
