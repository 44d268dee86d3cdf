use Rattle.std.proofs.Common.{◌≡◌, ◌++◌, map, take}
use Rattle.wf_config.specs.Rules.{row_rule, rule_of}
use Rattle.wf_config.proofs.built_ins.add_row.Given as goal

abbrev pub invariant-loop-name : goal.invariant-loop-name
invariant-loop-name l = map rule_of l.rules.items ≡ map rule_of l.fn.rules.items ++ map (λ w. row_rule l.row w.now) (take l.name-index l.name-items)
