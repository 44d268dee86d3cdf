use Rattle.std.proofs.Common.{◌≡◌, map, drop}
use Rattle.wf_model.specs.Reading.{first_fault}
use Rattle.wf_model.specs.PlanTests.{extent_fault}
use Rattle.wf_plan_limits.proofs.limits.extents_fault.Given as goal

abbrev pub invariant-loop-extent : goal.invariant-loop-extent
invariant-loop-extent l = first_fault (map extent_fault (drop l.extent-index l.extents)) ≡ first_fault (map extent_fault l.extents)
