use Rattle.std.proofs.Common.{◌≡◌, map, take}
use Rattle.std.specs.List.{flat_map}
use Rattle.wf_config.specs.Rules.{row_of, rule_of}
use Rattle.wf_config.proofs.built_ins.built_ins.Given as goal

abbrev pub invariant-loop-row : goal.invariant-loop-row
invariant-loop-row l = map rule_of l.rules.items ≡ flat_map row_of (take l.row-index l.row-items)
