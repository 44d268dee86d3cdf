-- Counts of a plan within the limits of domains, items, levels and time fit in 64 bits, and all the
-- more in 128.
use Rattle.std.specs.Prelude.{◌*◌, ◌^◌, ◌<◌, ◌≤◌, length}
use Rattle.wf_model.specs.declared.plan.Plan.{Plan}
use Rattle.wf_model.specs.Sound.{IsSoundTime}
use Rattle.wf_model.specs.Patches.{Split}
use Rattle.wf_model.specs.Counts.{script_items, all_events}
use Rattle.wf_model.specs.Weights.{HasDomainsInTime}

-- at most 8 domains, 256 items of the table and 64 levels, and the run ends by the year 9999
pub record IsCountable (plan : Plan) : Type 0 where
  pub in_time : HasDomainsInTime plan
  pub ends : IsSoundTime plan
  pub domains : length plan.domains ≤ 8
  pub items : length plan.items ≤ 256
  pub levels : length plan.fields ≤ 64

abbrev pub ItemsFit : Type 0
ItemsFit = (plan : Plan) → IsCountable plan → script_items plan < 2 ^ 50

-- with at most 256 patches
abbrev pub EventsFit : Type 0
EventsFit =
    (plan : Plan) (split : Split) → IsCountable plan → split.in_x * split.in_y ≤ 256 →
    all_events plan split < 2 ^ 64
