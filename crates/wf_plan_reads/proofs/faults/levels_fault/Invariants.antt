use Rattle.std.proofs.Common.{◌≡◌, drop}
use Rattle.std.specs.Prelude.{flat_map}
use Rattle.wf_model.specs.Plans.{domain_of, domains_of}
use Rattle.wf_model.specs.Reading.{first_fault}
use Rattle.wf_plan_reads.specs.Regions.{levels_in, of_item}
use Rattle.wf_plan_reads.proofs.FirstFaults.{all_levels}
use Rattle.wf_plan_reads.proofs.faults.levels_fault.Given as goal

abbrev pub invariant-loop-domain : goal.invariant-loop-domain
invariant-loop-domain l = first_fault (flat_map (λ d. flat_map (of_item (levels_in l.plan l.extents (domain_of l.plan d))) l.plan.items) (drop l.domain-index (domains_of l.plan))) ≡ first_fault (all_levels l.plan l.extents)
