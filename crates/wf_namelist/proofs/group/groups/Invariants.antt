use Rattle.std.proofs.Common.{◌≡◌, ◌-◌, drop, length}
use Rattle.wf_model.specs.Namelist.{groups}
use Rattle.wf_model.proofs.ReadingLemmas.{with_front}
use Rattle.wf_namelist.proofs.group.groups.Given as goal

abbrev pub invariant-loop : goal.invariant-loop
invariant-loop l = with_front l.items.items (groups (length l.tokens - l.counter) (drop l.at l.tokens)) ≡ groups (length l.tokens) l.tokens
