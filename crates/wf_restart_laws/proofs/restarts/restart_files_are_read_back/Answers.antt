use Rattle.wf_restart_laws.proofs.Whole.{files_read}
use Rattle.wf_restart_laws.proofs.restarts.restart_files_are_read_back.Goals as goal

pub returns : goal.returns
returns c = files_read
