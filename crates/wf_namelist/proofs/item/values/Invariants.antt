use Rattle.std.proofs.Common.{◌≡◌, ◌-◌, [], false, drop}
use Rattle.wf_model.specs.Namelist.{values}
use Rattle.wf_namelist.proofs.item.values.Given as goal

abbrev pub invariant-loop : goal.invariant-loop
invariant-loop l = values (l.most - l.counter) l.values.items l.after_comma (drop l.at l.tokens) ≡ values l.most [] false (drop l.first l.tokens)
