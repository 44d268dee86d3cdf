use Rattle.std.proofs.Common.{◌≡◌, drop}
use Rattle.std.specs.Prelude.{flat_map}
use Rattle.wf_model.specs.Reading.{first_fault}
use Rattle.wf_plan_reads.specs.Regions.{edges_in, of_item}
use Rattle.wf_plan_reads.proofs.faults.domain_edges.Given as goal

abbrev pub invariant-loop-item : goal.invariant-loop-item
invariant-loop-item l = first_fault (flat_map (of_item (edges_in l.plan l.extents l.number l.domain)) (drop l.item-index l.plan.items)) ≡ first_fault (flat_map (of_item (edges_in l.plan l.extents l.number l.domain)) l.plan.items)
