-- When the domains of a plan start.
use Rattle.std.specs.Prelude.{◌≡◌, ℕ, ◌+◌, ◌≤◌, List, None}
use Rattle.wf_model.specs.declared.config.Config.{Config}
use Rattle.wf_model.specs.declared.plan.Plan.{Plan}
use Rattle.wf_model.specs.declared.plan.Item.{Item}
use Rattle.wf_model.specs.declared.table.HookName.{HookName}
use Rattle.wf_model.specs.Reading.{first_fault}
use Rattle.wf_model.specs.Calendar.{moment_of}
use Rattle.wf_model.specs.Dates.{seconds_before, last_moment}
use Rattle.wf_model.specs.Plans.{domain_of}
use Rattle.wf_model.specs.PlanOf.{plan_from}
use Rattle.wf_model.specs.PlanTests.{domain_faults}
use Rattle.wf_model.specs.Script.{not_before}
use Rattle.wf_model.specs.Sound.{IsDomain}
use Rattle.wf_config_laws.specs.RangedValues.{HasRangedValues}

-- each of them within the years 1 to 9999, where no test of domains and times fails
abbrev pub DomainsStartInTime : Type 0
DomainsStartInTime =
    (config : Config) (hooks : List HookName) (items : List Item) (plan : Plan)
    → HasRangedValues config → plan_from config hooks items ≡ plan
    → first_fault (domain_faults config plan) ≡ None
    → (d : ℕ) → IsDomain plan d
    → seconds_before (moment_of plan.start) + not_before (domain_of plan d).begins
    ≤ seconds_before last_moment
