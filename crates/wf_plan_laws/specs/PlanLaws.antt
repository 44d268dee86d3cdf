-- A plan that is accepted is sound, and its numbers are in their ranges.
use Rattle.std.specs.Prelude.{◌≡◌, ℕ, List, [], length, Ok}
use Rattle.std.specs.List.{All}
use Rattle.wf_model.specs.declared.registry.SourceFile.{SourceFile}
use Rattle.wf_model.specs.declared.registry.Registry.{Registry}
use Rattle.wf_model.specs.declared.namelist.Namelist.{Namelist}
use Rattle.wf_model.specs.declared.config.Config.{Config}
use Rattle.wf_model.specs.declared.plan.Plan.{Plan}
use Rattle.wf_model.specs.declared.plan.Item.{Item}
use Rattle.wf_model.specs.declared.table.HookName.{HookName}
use Rattle.wf_model.specs.KeptLines.{Defines}
use Rattle.wf_model.specs.Registry.{registry_of}
use Rattle.wf_model.specs.Config.{config_of}
use Rattle.wf_model.specs.NamesOf.{names_of}
use Rattle.wf_model.specs.Table.{table_of}
use Rattle.wf_model.specs.PlanOf.{plan_from, plan_of}
use Rattle.wf_model.specs.Sound.{IsSoundPlan, IsRangedPlan, FilesFit, CallsHooks, HasHooks}
use Rattle.wf_registry_laws.specs.HookLaws.{HasUsualArity}
use Rattle.wf_model.specs.Hooks.{HasFewArguments}
use Rattle.wf_table_laws.specs.ItemLaws.{CallsNothing}
use Rattle.wf_plan_laws.specs.TestLaws.{PassesSoundTests}

-- what a plan of any number of domains keeps, where these are the stored functions
pub record IsTestedPlan (hooks : List HookName) (plan : Plan) : Type 0 where
  pub sound : IsSoundPlan plan
  pub ranged : IsRangedPlan plan
  pub files : FilesFit plan
  pub calls : All (CallsHooks hooks) plan.items
  pub functions : All HasUsualArity hooks → HasHooks hooks plan
  pub no_calls : hooks ≡ [] → All CallsNothing plan.items

-- what a Registry, a namelist and a table say, where no test but those of what isn't built fails,
-- and calls have at most 8 arguments
abbrev pub TestedPlansAreSound : Type 0
TestedPlansAreSound =
    (files : List SourceFile) (defines : Defines) (registry : Registry) (namelist : Namelist)
    (config : Config) (hooks : List HookName)
    (text : List ℕ) (items : List Item) (plan : Plan)
    → registry_of files defines ≡ Ok registry → config_of registry namelist ≡ Ok config
    → All HasFewArguments hooks
    → table_of text (names_of config hooks) ≡ Ok items → plan_from config hooks items ≡ plan
    → PassesSoundTests config plan
    → IsTestedPlan hooks plan

-- what an accepted plan keeps
pub record IsAcceptedPlan (hooks : List HookName) (plan : Plan) : Type 0 where
  pub sound : IsSoundPlan plan
  pub ranged : IsRangedPlan plan
  pub files : FilesFit plan
  -- before nests are built
  pub single : length plan.domains ≡ 1
  pub calls : All (CallsHooks hooks) plan.items
  pub functions : All HasUsualArity hooks → HasHooks hooks plan
  pub no_calls : hooks ≡ [] → All CallsNothing plan.items

-- the plan of a Registry, a namelist and a table, where calls have at most 8 arguments
abbrev pub PlansWithHooksAreSound : Type 0
PlansWithHooksAreSound =
    (files : List SourceFile) (defines : Defines) (registry : Registry) (namelist : Namelist)
    (config : Config) (hooks : List HookName)
    (text : List ℕ) (items : List Item) (plan : Plan)
    → registry_of files defines ≡ Ok registry → config_of registry namelist ≡ Ok config
    → All HasFewArguments hooks
    → table_of text (names_of config hooks) ≡ Ok items → plan_of config hooks items ≡ Ok plan
    → IsAcceptedPlan hooks plan
