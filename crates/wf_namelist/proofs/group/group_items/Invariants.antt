use Rattle.std.proofs.Common.{◌≡◌, ◌-◌, drop}
use Rattle.wf_model.specs.Namelist.{group_items}
use Rattle.wf_namelist.proofs.GroupTurns.{behind}
use Rattle.wf_namelist.proofs.group.group_items.Given as goal

abbrev pub invariant-loop : goal.invariant-loop
invariant-loop l = behind l.items.items (group_items (l.most - l.counter) l.group (drop l.at l.tokens)) ≡ group_items l.most l.group (drop l.first l.tokens)
