use Rattle.wf_registry.specs.Unknown.{AreKnownBelow}
use Rattle.wf_registry.proofs.unknown.unknown_at.Given as goal

abbrev pub invariant-loop-at : goal.invariant-loop-at
invariant-loop-at l = AreKnownBelow l.all l.entries l.at
