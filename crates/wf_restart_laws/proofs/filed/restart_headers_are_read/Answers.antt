use Rattle.wf_restart_laws.proofs.FramesBack.{headers_read}
use Rattle.wf_restart_laws.proofs.filed.restart_headers_are_read.Goals as goal

pub returns : goal.returns
returns c = headers_read
