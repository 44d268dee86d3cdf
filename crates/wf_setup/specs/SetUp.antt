-- What the plan of a case that was read keeps.
use Rattle.std.specs.Prelude.{◌≡◌, IsFalse, length}
use Rattle.wf_model.specs.declared.plan.Plan.{Plan}
use Rattle.wf_model.specs.Sound.{IsSoundPlan, IsRangedPlan, FilesFit}
use Rattle.wf_stream.specs.Inputs.{StartsInTime}

-- it is sound, its numbers are in their ranges, its files keep within their sizes, and it has one
-- domain
pub record IsSinglePlan (plan : Plan) : Type 0 where
  pub sound : IsSoundPlan plan
  pub ranged : IsRangedPlan plan
  pub files : FilesFit plan
  pub single : length plan.domains ≡ 1

-- so it is, is no restart and writes no restart files, and starts within the years 1 to 9999
pub record IsSetUp (plan : Plan) : Type 0 where
  pub single : IsSinglePlan plan
  pub no_restart : IsFalse plan.restart
  pub no_restart_files : plan.restart_steps ≡ 0
  pub starts : StartsInTime plan
