use Rattle.std.proofs.Common.{◌≡◌, length}
use Rattle.std.specs.Prelude.{flat_map}
use Rattle.wf_model.specs.Plans.{domains_of}
use Rattle.wf_model.specs.Reading.{first_fault}
use Rattle.wf_plan_limits.specs.LimitParts.{files_of}
use Rattle.wf_plan_limits.proofs.Stages.{first_left}
use Rattle.wf_plan_limits.proofs.files.files_fault.Given as goal

abbrev pub invariant-loop-place : goal.invariant-loop-place
invariant-loop-place l = first_left (files_of l.plan) l.place (length l.plan.domains) ≡ first_fault (flat_map (files_of l.plan) (domains_of l.plan))
