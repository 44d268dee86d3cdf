use Rattle.wf_restart_laws.proofs.Whole.{domains_read}
use Rattle.wf_restart_laws.proofs.filed.domains_are_read_back.Goals as goal

pub returns : goal.returns
returns c = domains_read
