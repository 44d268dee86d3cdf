use Rattle.wf_core_laws.proofs.Interleavings.{full_lists_end_alike}
use Rattle.wf_core_laws.proofs.full_lists.full_lists_end_alike.Goals as goal

pub returns : goal.returns
returns c = full_lists_end_alike
