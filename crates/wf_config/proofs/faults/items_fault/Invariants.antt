use Rattle.std.proofs.Common.{◌≡◌, map, drop}
use Rattle.wf_model.specs.Reading.{first_fault}
use Rattle.wf_model.specs.Config.{item_fault}
use Rattle.wf_config.specs.Rules.{rule_of}
use Rattle.wf_config.proofs.faults.items_fault.Given as goal

abbrev pub invariant-loop-item : goal.invariant-loop-item
invariant-loop-item l = first_fault (map (λ i. item_fault (map rule_of l.rules) l.domains i.now) (drop l.item-index l.items)) ≡ first_fault (map (λ i. item_fault (map rule_of l.rules) l.domains i.now) l.items)
