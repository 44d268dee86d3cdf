use Rattle.std.proofs.Common.{◌≡◌, map, take}
use Rattle.std.specs.List.{filter_map}
use Rattle.wf_model.specs.Config.{rconfig_rule}
use Rattle.wf_config.specs.Rules.{rule_of}
use Rattle.wf_config.proofs.rconfig.registry_rules.Given as goal

abbrev pub invariant-loop-entry : goal.invariant-loop-entry
invariant-loop-entry l = map rule_of l.rules.items ≡ filter_map rconfig_rule (take l.entry-index l.entry-items)
