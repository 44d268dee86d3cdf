use Rattle.wf_core_laws.proofs.Interleavings.{memory_after_halves_is_the_fronts}
use Rattle.wf_core_laws.proofs.front.memory_after_halves_is_the_fronts.Goals as goal

pub returns : goal.returns
returns c = memory_after_halves_is_the_fronts
