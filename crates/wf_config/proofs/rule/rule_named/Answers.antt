use Rattle.std.proofs.Common.{◌∙◌, sym, ap}
use Rattle.std.specs.Option.{option_map}
use Rattle.wf_model.specs.Config.{has_rule_name}
use Rattle.wf_config.specs.Rules.{rule_of}
use Rattle.wf_config.proofs.Finds.{find_map}
use Rattle.wf_config.proofs.rule.rule_named.Goals as goal

pub returns : goal.returns
returns c = ap (option_map rule_of) c.find_rule.ensures ∙ sym (find_map (has_rule_name c.args.name.now) rule_of c.args.rules.now)
