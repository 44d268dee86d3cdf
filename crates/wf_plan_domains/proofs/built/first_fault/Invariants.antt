use Rattle.std.proofs.Common.{◌≡◌, drop, map}
use Rattle.wf_model.specs.PlanTests.{unbuilt_fault}
use Rattle.wf_model.specs.Reading.{first_fault}
use Rattle.wf_plan_domains.specs.DomainTests.{unbuilt_of}
use Rattle.wf_plan_domains.proofs.built.first_fault.Given as goal

abbrev pub invariant-loop-feature : goal.invariant-loop-feature
invariant-loop-feature l =
    first_fault (map (λ x. unbuilt_fault l.config (unbuilt_of x)) (drop l.feature-index l.features))
    ≡ first_fault (map (λ x. unbuilt_fault l.config (unbuilt_of x)) l.features)
