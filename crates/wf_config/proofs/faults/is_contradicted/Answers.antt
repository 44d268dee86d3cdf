use Rattle.std.proofs.Common.{sym, ◌∙◌}
use Rattle.wf_config.specs.Rules.{contradicts, rule_of}
use Rattle.wf_config.proofs.Actives.{any_map}
use Rattle.wf_config.proofs.faults.is_contradicted.Goals as goal

pub returns : goal.returns
returns c = c.contradiction.ensures ∙ sym (any_map (contradicts (rule_of c.args.rule.now)) rule_of c.args.table.now)
