-- A plan that is given is what the config and the table say, and each test passes.
use Rattle.std.specs.Prelude.{◌≡◌, List, map, None, Ok}
use Rattle.wf_model.specs.declared.config.Config.{Config}
use Rattle.wf_model.specs.declared.plan.Plan.{Plan}
use Rattle.wf_model.specs.declared.plan.Item.{Item}
use Rattle.wf_model.specs.declared.table.HookName.{HookName}
use Rattle.wf_model.specs.Reading.{first_fault}
use Rattle.wf_model.specs.PlanFields.{z_extents}
use Rattle.wf_model.specs.PlanOf.{plan_from, plan_of}
use Rattle.wf_model.specs.PlanTests.{unbuilt_fault, unbuilt, domain_faults, read_faults}
use Rattle.wf_model.specs.PlanTests.{limit_faults}

-- of each group of tests but those of what isn't built none fails
pub record PassesSoundTests (config : Config) (plan : Plan) : Type 0 where
  pub domains : first_fault (domain_faults config plan) ≡ None
  pub reads : first_fault (read_faults plan (z_extents config)) ≡ None
  pub limits : first_fault (limit_faults plan (z_extents config)) ≡ None

-- of each group of tests none fails
pub record PassesTests (config : Config) (plan : Plan) : Type 0 where
  pub built : first_fault (map (unbuilt_fault config) unbuilt) ≡ None
  pub domains : first_fault (domain_faults config plan) ≡ None
  pub reads : first_fault (read_faults plan (z_extents config)) ≡ None
  pub limits : first_fault (limit_faults plan (z_extents config)) ≡ None

abbrev pub PlansPassTheirTests : Type 0
PlansPassTheirTests =
    (config : Config) (hooks : List HookName) (items : List Item) (plan : Plan)
    → plan_of config hooks items ≡ Ok plan
    → (plan_from config hooks items ≡ plan) × PassesTests config plan
