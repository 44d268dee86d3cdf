use Rattle.std.proofs.Common.{◌≡◌, take}
use Rattle.wf_model.proofs.table.HookName.copy_all.Given as goal

abbrev pub invariant-loop-hook : goal.invariant-loop-hook
invariant-loop-hook l = l.copies.items ≡ take l.hook-index l.hooks
