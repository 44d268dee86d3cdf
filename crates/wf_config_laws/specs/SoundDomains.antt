-- What the tests of domains and times leave: domains that are sound and in their ranges.
use Rattle.std.specs.Prelude.{◌≡◌, ℕ, ◌<◌, ◌≤◌, List, length, None, Ok}
use Rattle.std.specs.List.{All}
use Rattle.wf_model.specs.declared.registry.Registry.{Registry}
use Rattle.wf_model.specs.declared.namelist.Namelist.{Namelist}
use Rattle.wf_model.specs.declared.config.Config.{Config}
use Rattle.wf_model.specs.declared.plan.Plan.{Plan}
use Rattle.wf_model.specs.declared.plan.Item.{Item}
use Rattle.wf_model.specs.declared.table.HookName.{HookName}
use Rattle.wf_model.specs.Reading.{first_fault}
use Rattle.wf_model.specs.Config.{config_of}
use Rattle.wf_model.specs.Plans.{domain_of}
use Rattle.wf_model.specs.PlanOf.{plan_from}
use Rattle.wf_model.specs.PlanTests.{domain_faults}
use Rattle.wf_model.specs.Ranges.{Within, IsRangedDomain}
use Rattle.wf_model.specs.Sound.{IsDomain, IsSoundNest, IsTimedNest, IsSoundFirst, IsSoundTime}
use Rattle.wf_config_laws.specs.RangedValues.{HasRangedValues}

-- what a plan asks of its domains and times
pub record HasSoundDomains (plan : Plan) : Type 0 where
  pub some : 1 ≤ length plan.domains
  pub few : length plan.domains ≤ 8
  pub ranged : All IsRangedDomain plan.domains
  pub each : (d : ℕ) → IsDomain plan d → IsRangedDomain (domain_of plan d)
  pub first : IsSoundFirst (domain_of plan 1)
  pub time : IsSoundTime plan
  pub nests : (c : ℕ) → 1 < c → IsDomain plan c → IsSoundNest plan c
  pub timed : (c : ℕ) → 1 < c → IsDomain plan c → IsTimedNest plan c
  pub bdy_width : Within 1 20 plan.bdy_width

-- where no test of domains and times fails
abbrev pub DomainsAreRanged : Type 0
DomainsAreRanged =
    (config : Config) (hooks : List HookName) (items : List Item) → HasRangedValues config
    → first_fault (domain_faults config (plan_from config hooks items)) ≡ None
    → HasSoundDomains (plan_from config hooks items)

-- so for each config that a Registry and a namelist give
abbrev pub BoundDomainsAreRanged : Type 0
BoundDomainsAreRanged =
    (registry : Registry) (namelist : Namelist) (config : Config) (hooks : List HookName)
    (items : List Item) → config_of registry namelist ≡ Ok config
    → first_fault (domain_faults config (plan_from config hooks items)) ≡ None
    → HasSoundDomains (plan_from config hooks items)
