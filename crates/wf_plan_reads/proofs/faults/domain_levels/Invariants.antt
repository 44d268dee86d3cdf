use Rattle.std.proofs.Common.{◌≡◌, drop}
use Rattle.std.specs.Prelude.{flat_map}
use Rattle.wf_model.specs.Reading.{first_fault}
use Rattle.wf_plan_reads.specs.Regions.{levels_in, of_item}
use Rattle.wf_plan_reads.proofs.faults.domain_levels.Given as goal

abbrev pub invariant-loop-item : goal.invariant-loop-item
invariant-loop-item l = first_fault (flat_map (of_item (levels_in l.plan l.extents l.domain)) (drop l.item-index l.plan.items)) ≡ first_fault (flat_map (of_item (levels_in l.plan l.extents l.domain)) l.plan.items)
