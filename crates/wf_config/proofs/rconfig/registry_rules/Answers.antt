use Rattle.std.proofs.Common.{◌∙◌, map, ap}
use Rattle.wf_model.specs.Config.{rconfig_rule}
use Rattle.wf_config.specs.Rules.{rule_of}
use Rattle.wf_config.proofs.Loops.{kept_option}
use Rattle.wf_config.proofs.rconfig.registry_rules.Goals as goal

pub loop-entry-preserved : goal.loop-entry-preserved
loop-entry-preserved c =
    ap (map rule_of) c.in_ok-push_some.ensures
    ∙ kept_option rule_of rconfig_rule c.loop-entry.rules.items c.in_ok-rconfig_rule.field-0 c.as_slice-entry-items.result.now c.loop-entry.entry-index c.entry-item.result c.loop-entry-test.true c.entry-item.is c.in_ok-rconfig_rule.ensures c.loop-entry.invariant
