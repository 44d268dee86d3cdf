use Rattle.wf_field.specs.Kept.{AreZeros}
use Rattle.wf_field.proofs.making.zero_levels.Given as goal

abbrev pub invariant-loop-bounds : goal.invariant-loop-bounds
invariant-loop-bounds l = AreZeros l.boxes l.bounds-index l.levels.items
