use Rattle.std.proofs.Common.{not, ap, ◌∙◌, is_some, rules, map}
use borrow.Author.Tests.{tests}
use Rattle.std.proofs.lemmas.Fn.{filter_same}
use Rattle.wf_model.specs.BuiltIns.{NameRule}
use Rattle.wf_model.specs.Config.{rule_named}
use Rattle.wf_config.specs.declared.rule.Rule.{Rule}
use Rattle.wf_config.specs.Rules.{rule_of}
use Rattle.wf_config.proofs.Finds.{filter_map_view}
use Rattle.wf_config.proofs.rconfig.others.Goals as goal

pub returns : goal.returns
returns c =
    ap (map rule_of) (filter_same _ (λ (r : Rule). not (is_some (rule_named (map rule_of c.args.built_ins.now) r.name))) _ (λ x b q k. search (rules, tests)) c.args.declared.items _ c.retain.ensures.filtered)
    ∙ filter_map_view (λ (r : NameRule). not (is_some (rule_named (map rule_of c.args.built_ins.now) r.name))) rule_of c.args.declared.items
