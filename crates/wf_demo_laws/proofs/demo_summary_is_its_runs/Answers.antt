use Rattle.wf_demo_laws.proofs.Writes.{summary_of_demo}
use Rattle.wf_demo_laws.proofs.demo_summary_is_its_runs.Goals as goal

pub returns : goal.returns
returns c = summary_of_demo
