use Rattle.wf_restart_laws.proofs.Whole.{files_read_there}
use Rattle.wf_restart_laws.proofs.restarts.restart_files_are_read_back_where_written.Goals as goal

pub returns : goal.returns
returns c = files_read_there
