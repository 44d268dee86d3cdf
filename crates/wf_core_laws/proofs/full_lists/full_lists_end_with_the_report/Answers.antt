use Rattle.wf_core_laws.proofs.Interleavings.{full_lists_end_with_the_report}
use Rattle.wf_core_laws.proofs.full_lists.full_lists_end_with_the_report.Goals as goal

pub returns : goal.returns
returns c = full_lists_end_with_the_report
