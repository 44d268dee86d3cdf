use Rattle.std.proofs.Common.{◌≡◌, map, take}
use Rattle.wf_model.specs.Config.{filled}
use Rattle.wf_config.specs.Rules.{rule_of}
use Rattle.wf_config.proofs.values.values.Given as goal

abbrev pub invariant-loop-rule : goal.invariant-loop-rule
invariant-loop-rule l = l.values.items ≡ map (λ r. filled l.domains (map (λ i. i.now) l.items) (rule_of r)) (take l.rule-index l.rules)
