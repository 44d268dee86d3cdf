use Rattle.std.proofs.Common.{length}
use Rattle.std.specs.HashSet.{contains}
use Rattle.wf_namelist.proofs.KeptItems.{KeptFrom, key_eq}
use Rattle.wf_namelist.proofs.last.last_items.Given as goal

abbrev pub invariant-loop-item : goal.invariant-loop-item
invariant-loop-item l = KeptFrom l.fn.items.items l.items.items l.kept.items (contains key_eq l.seen)

abbrev pub decreases-loop-item : goal.decreases-loop-item
decreases-loop-item l = length l.items.items
