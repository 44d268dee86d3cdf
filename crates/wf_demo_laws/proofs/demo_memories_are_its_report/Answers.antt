use Rattle.wf_demo_laws.proofs.Report.{report_is}
use Rattle.wf_demo_laws.proofs.demo_memories_are_its_report.Goals as goal

pub returns : goal.returns
returns c = report_is
