use Rattle.std.proofs.Common.{◌≡◌, ◌+◌, length}
use Rattle.std.specs.List.{flat_map}
use Rattle.wf_model.specs.PlanTests.{interval_faults}
use Rattle.wf_model.specs.Plans.{up_to}
use Rattle.wf_model.specs.Reading.{first_fault}
use Rattle.wf_plan_domains.specs.DomainTests.{intervals_found}
use Rattle.wf_plan_domains.proofs.FirstFound.{first_from}
use Rattle.wf_plan_domains.proofs.intervals.intervals_fault.Given as goal

abbrev pub invariant-loop-domain : goal.invariant-loop-domain
invariant-loop-domain l =
    first_from (intervals_found l.config l.plan) l.domain (l.last + 1)
    ≡ first_fault (flat_map (interval_faults l.config l.plan) (up_to (length l.plan.domains)))
