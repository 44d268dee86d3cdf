use Rattle.std.proofs.Common.{sym, ◌∙◌}
use Rattle.std.specs.Str.{bytes_eq}
use Rattle.wf_model.specs.BuiltIns.{NameRule}
use Rattle.wf_config.specs.Rules.{rule_of}
use Rattle.wf_config.proofs.Actives.{any_map}
use Rattle.wf_config.proofs.given.is_known_group.Goals as goal

pub returns : goal.returns
returns c = c.has_group.ensures ∙ sym (any_map (λ (r : NameRule). bytes_eq r.group c.args.group.now) rule_of c.args.rules.now)
