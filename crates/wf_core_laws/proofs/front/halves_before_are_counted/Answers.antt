use Rattle.wf_core_laws.proofs.HalvesCounted.{halves_before_are_counted}
use Rattle.wf_core_laws.proofs.front.halves_before_are_counted.Goals as goal

pub returns : goal.returns
returns c = halves_before_are_counted
