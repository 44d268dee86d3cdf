-- Texts that were read, whether or not a store tells its files.
use Rattle.std.specs.Prelude.{◌≡◌, ℕ, List, Ok}
use Rattle.wf_model.specs.declared.registry.SourceFile.{SourceFile}
use Rattle.wf_model.specs.declared.registry.Registry.{Registry}
use Rattle.wf_model.specs.declared.namelist.Namelist.{Namelist}
use Rattle.wf_model.specs.declared.config.Config.{Config}
use Rattle.wf_model.specs.declared.plan.Item.{Item}
use Rattle.wf_model.specs.declared.plan.Plan.{Plan}
use Rattle.wf_model.specs.declared.table.HookName.{HookName}
use Rattle.wf_model.specs.KeptLines.{Defines}
use Rattle.wf_model.specs.Registry.{registry_of}
use Rattle.wf_model.specs.Config.{config_of}
use Rattle.wf_model.specs.NamesOf.{names_of}
use Rattle.wf_model.specs.Table.{table_of}
use Rattle.wf_model.specs.PlanOf.{plan_of}
use Rattle.wf_setup.specs.declared.registry_files.Step.{Step}
use Rattle.wf_setup.specs.declared.registry_files.Step.TheVariants.{Read, Wants}

-- the Registry of some files
pub record IsReadRegistry (defines : Defines) (r : Registry) : Type 0 where
  pub files : List SourceFile
  pub read : registry_of files defines ≡ Ok r

-- a step that read a Registry
abbrev pub IsReadStep : Defines → Step → Type 0
IsReadStep defines (Read r) = IsReadRegistry defines r
IsReadStep defines (Wants file) = Unit {0}

-- the config of such a Registry and of some namelist
pub record IsBoundConfig (defines : Defines) (c : Config) : Type 0 where
  pub registry : Registry
  pub namelist : Namelist
  pub read : IsReadRegistry defines registry
  pub bound : config_of registry namelist ≡ Ok c

-- the items of some table, which calls these functions
pub record IsTableOf (hooks : List HookName) (config : Config) (items : List Item) : Type 0 where
  pub text : List ℕ
  pub read : table_of text (names_of config hooks) ≡ Ok items

-- the plan of a config and of some table
pub record IsPlanOf (hooks : List HookName) (config : Config) (plan : Plan) : Type 0 where
  pub items : List Item
  pub table : IsTableOf hooks config items
  pub planned : plan_of config hooks items ≡ Ok plan
