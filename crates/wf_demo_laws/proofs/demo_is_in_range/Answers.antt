use Rattle.wf_demo_laws.proofs.Ranged.{all_in_range}
use Rattle.wf_demo_laws.proofs.demo_is_in_range.Goals as goal

pub returns : goal.returns
returns c = all_in_range
