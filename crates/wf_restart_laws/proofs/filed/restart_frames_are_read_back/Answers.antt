use Rattle.wf_restart_laws.proofs.FramesBack.{frames_back}
use Rattle.wf_restart_laws.proofs.filed.restart_frames_are_read_back.Goals as goal

pub returns : goal.returns
returns c = frames_back
