use Rattle.std.proofs.Common.{◌≡◌, map, take}
use Rattle.wf_model.specs.PlanDomains.{amount}
use Rattle.wf_plan_domains.proofs.streams.numbers_of.Given as goal

abbrev pub invariant-loop-name : goal.invariant-loop-name
invariant-loop-name l = l.numbers.items ≡ map (λ n. amount l.config n.now l.domain) (take l.name-index l.names)
