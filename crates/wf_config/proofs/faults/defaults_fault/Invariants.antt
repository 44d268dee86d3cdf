use Rattle.std.proofs.Common.{◌≡◌, map, drop}
use Rattle.wf_model.specs.Reading.{first_fault}
use Rattle.wf_model.specs.Config.{default_fault}
use Rattle.wf_config.specs.Rules.{rule_of}
use Rattle.wf_config.proofs.faults.defaults_fault.Given as goal

abbrev pub invariant-loop-rule : goal.invariant-loop-rule
invariant-loop-rule l = first_fault (map (λ r. default_fault l.domains (map (λ i. i.now) l.items) (rule_of r)) (drop l.rule-index l.rules)) ≡ first_fault (map (λ r. default_fault l.domains (map (λ i. i.now) l.items) (rule_of r)) l.rules)
