use Rattle.wf_restart_laws.proofs.Whole.{whole}
use Rattle.wf_restart_laws.proofs.restarts.restarted_runs_go_on.Goals as goal

pub returns : goal.returns
returns c = whole
