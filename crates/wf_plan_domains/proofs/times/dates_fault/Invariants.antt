use Rattle.std.proofs.Common.{◌≡◌, ◌+◌, map}
use Rattle.wf_model.specs.PlanTests.{date_fault}
use Rattle.wf_model.specs.Plans.{up_to}
use Rattle.wf_model.specs.Reading.{first_fault}
use Rattle.wf_plan_domains.proofs.FirstFound.{first_from}
use Rattle.wf_plan_domains.proofs.times.dates_fault.Given as goal

abbrev pub invariant-loop-domain : goal.invariant-loop-domain
invariant-loop-domain l = first_from (date_fault l.config) l.domain (l.last + 1) ≡ first_fault (map (date_fault l.config) (up_to l.last))
