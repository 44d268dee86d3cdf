use Rattle.wf_plan_laws.proofs.StartTimes.{domains_start_in_time}
use Rattle.wf_plan_laws.proofs.domains_start_in_time.Goals as goal

pub returns : goal.returns
returns c = domains_start_in_time
