-- What the tests of a layout leave: a layout that fits the plan, in its ranges.
use Rattle.std.specs.Prelude.{◌≡◌, ℕ, ◌≤◌, length, Ok}
use Rattle.wf_model.specs.declared.config.Config.{Config}
use Rattle.wf_model.specs.declared.plan.Plan.{Plan}
use Rattle.wf_model.specs.declared.layout.Layout.{Layout}
use Rattle.wf_model.specs.PlanOf.{layout_of}
use Rattle.wf_model.specs.Ranges.{Within, IsRangedLayout}
use Rattle.wf_model.specs.Sound.{IsSoundLayout}
use Rattle.wf_config_laws.specs.RangedValues.{HasRangedValues}

pub record HasGoodLayout (plan : Plan) (layout : Layout) : Type 0 where
  pub ranged : IsRangedLayout layout
  pub sound : IsSoundLayout plan layout

-- of a config whose values are in range, a plan with a domain, and 1 to 64 workers
abbrev pub LayoutsAreRanged : Type 0
LayoutsAreRanged =
    (config : Config) (plan : Plan) (workers : ℕ) (layout : Layout) → HasRangedValues config
    → 1 ≤ length plan.domains → Within 1 64 workers
    → layout_of config plan workers ≡ Ok layout → HasGoodLayout plan layout
