use Rattle.std.proofs.Common.{◌≡◌, ◌∙◌, sym, ap, rules}
use Rattle.std.specs.Option.{option_copied, option_map}
use Rattle.wf_model.specs.Config.{rule_fault}
use Rattle.wf_config.specs.Rules.{known_fault, rule_of}
use Rattle.wf_config.proofs.Judgements.{known_is}
use Rattle.wf_config.proofs.faults.rule_fault.Goals as goal

pub returns-in_ok-fault-in-Some : goal.returns-in_ok-fault-in-Some
returns-in_ok-fault-in-Some c =
    let here : c.in_ok-fault-in-Some.fault ≡ known_fault c.args.domains c.args.item.now (rule_of c.in-Some.rule.now) = search rules in
    here ∙ sym (known_is c.args.domains c.args.item.now (rule_of c.in-Some.rule.now))
    ∙ ap (λ o. rule_fault c.args.domains c.args.item.now (option_map rule_of (option_copied o))) (sym c.in-Some.is)
