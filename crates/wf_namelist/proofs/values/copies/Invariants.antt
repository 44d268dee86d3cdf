use Rattle.std.proofs.Common.{◌≡◌, replicate}
use Rattle.wf_namelist.proofs.values.copies.Given as goal

abbrev pub invariant-loop : goal.invariant-loop
invariant-loop l = l.values.items ≡ replicate l.counter l.value
