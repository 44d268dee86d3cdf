use Rattle.std.proofs.Common.{◌≡◌, drop}
use Rattle.std.specs.Prelude.{flat_map}
use Rattle.wf_model.specs.Plans.{domain_of, domains_of}
use Rattle.wf_model.specs.Reading.{first_fault}
use Rattle.wf_plan_reads.specs.Regions.{edges_in, of_item}
use Rattle.wf_plan_reads.proofs.FirstFaults.{all_edges}
use Rattle.wf_plan_reads.proofs.faults.edges_fault.Given as goal

abbrev pub invariant-loop-i : goal.invariant-loop-i
invariant-loop-i l = first_fault (flat_map (λ d. flat_map (of_item (edges_in l.plan l.extents d (domain_of l.plan d))) l.plan.items) (drop l.i (domains_of l.plan))) ≡ first_fault (all_edges l.plan l.extents)
