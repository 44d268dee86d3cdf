use Rattle.std.proofs.Common.{◌≡◌, map, drop}
use Rattle.wf_model.specs.Reading.{first_fault}
use Rattle.wf_config.specs.Rules.{rule_of, wrong_rule_in}
use Rattle.wf_config.proofs.faults.declarations_fault.Given as goal

abbrev pub invariant-loop-rule : goal.invariant-loop-rule
invariant-loop-rule l = first_fault (map (λ r. wrong_rule_in (map rule_of l.table) (rule_of r)) (drop l.rule-index l.declared)) ≡ first_fault (map (λ r. wrong_rule_in (map rule_of l.table) (rule_of r)) l.declared)
