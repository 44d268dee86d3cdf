use Rattle.std.proofs.Common.{◌≡◌, ◌+◌, length, ◌∙◌, refl, rules}
use Rattle.wf_model.specs.Config.{missing_value}
use Rattle.wf_config.specs.Rules.{rule_of}
use Rattle.wf_config.proofs.Loops.{numbered_more}
use Rattle.wf_config.proofs.values.filled_values.Goals as goal

pub loop-k-preserved : goal.loop-k-preserved
loop-k-preserved c =
    let here : c.in_ok-missing_value.field-0 ≡ missing_value (rule_of c.args.rule.now) c.args.given.now (length c.args.given.now + 1 + c.loop-k.k) = search rules in
    c.in_ok-push.ensures.items
    ∙ numbered_more (missing_value (rule_of c.args.rule.now) c.args.given.now) c.args.given.now c.loop-k.values.items c.in_ok-missing_value.field-0 (length c.args.given.now + 1) c.loop-k.k (length c.args.given.now + 1 + c.loop-k.k) refl here c.loop-k.invariant
