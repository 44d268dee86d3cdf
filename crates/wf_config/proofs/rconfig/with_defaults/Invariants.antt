use Rattle.std.proofs.Common.{◌≡◌, map, take}
use Rattle.wf_config.specs.Rules.{rule_of, with_defaults}
use Rattle.wf_config.proofs.rconfig.with_defaults.Given as goal

abbrev pub invariant-loop-rule : goal.invariant-loop-rule
invariant-loop-rule l = map rule_of l.rules.items ≡ with_defaults (map rule_of l.declared) (map rule_of (take l.rule-index l.built_ins))
