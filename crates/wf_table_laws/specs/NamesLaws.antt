-- What holds of the names that a config gives.
use Rattle.std.specs.Prelude.{◌≡◌, ℕ, ◌≤◌, List, [], length, All, Option, None, Ok}
use Rattle.wf_model.specs.declared.registry.Entry.{Entry}
use Rattle.wf_model.specs.declared.registry.Entry.TheVariants as entry
use Rattle.wf_model.specs.declared.registry.RegistryKind.{RegistryKind}
use Rattle.wf_model.specs.declared.registry.SourceFile.{SourceFile}
use Rattle.wf_model.specs.declared.registry.Registry.{Registry}
use Rattle.wf_model.specs.declared.namelist.Namelist.{Namelist}
use Rattle.wf_model.specs.declared.config.Config.{Config}
use Rattle.wf_model.specs.declared.table.HookName.{HookName}
use Rattle.wf_model.specs.Letters.{Text}
use Rattle.wf_model.specs.KeptLines.{Defines}
use Rattle.wf_model.specs.Registry.{registry_of}
use Rattle.wf_model.specs.Config.{config_of}
use Rattle.wf_model.specs.Groups.{groups_of, head_of, points_head, width_head}
use Rattle.wf_model.specs.NamesOf.{names_of}
use Rattle.wf_model.specs.declared.plan.Item.{Item}
use Rattle.wf_model.specs.Ranges.{IsRangedItem}
use Rattle.wf_model.specs.Sound.{CallsHooks}
use Rattle.wf_model.specs.Table.{table_of}
use Rattle.wf_table_laws.specs.ItemLaws.{HasNarrowCrosses, HasNamedPhases, IsOfNames, UsesLevels}
use Rattle.wf_table_laws.specs.ItemLaws.{CallsNothing}
use Rattle.wf_model.specs.Hooks.{HasFewArguments}
use Rattle.wf_table_laws.specs.Premises.{HasRangedParts, HasKnownLevels}

-- the head of each group keeps its rule
abbrev pub HeadsAreGood : (Text → Option RegistryKind) → Text → Type 0
HeadsAreGood rule groups = All (λ group. rule (head_of group) ≡ None) (groups_of groups)

-- the points of a halo's groups, the widths of a period's
abbrev pub HasGoodHeads : Entry → Type 0
HasGoodHeads (entry.Halo name groups) = HeadsAreGood points_head groups
HasGoodHeads (entry.Period name groups) = HeadsAreGood width_head groups
HasGoodHeads other = Unit {0}

-- of a config whose groups keep their rules, with calls of at most 8 arguments, the names' numbers
-- are in range
abbrev pub NamesAreRanged : Type 0
NamesAreRanged =
    (config : Config) (hooks : List HookName) → All HasGoodHeads config.halos
    → All HasGoodHeads config.periods → All HasFewArguments hooks
    → HasRangedParts (names_of config hooks)

-- so are those of a config of a Registry that was read
abbrev pub BoundNamesAreRanged : Type 0
BoundNamesAreRanged =
    (files : List SourceFile) (defines : Defines) (registry : Registry) (namelist : Namelist)
    (config : Config) (hooks : List HookName)
    → registry_of files defines ≡ Ok registry → config_of registry namelist ≡ Ok config
    → All HasFewArguments hooks → HasRangedParts (names_of config hooks)

-- of each config the names use levels that there are
abbrev pub NamesUseLevels : Type 0
NamesUseLevels = (config : Config) (hooks : List HookName) → HasKnownLevels (names_of config hooks)

-- ---- a table of a config's names

-- what a plan asks of its items
pub record AreItemsOf (config : Config) (hooks : List HookName) (items : List Item) : Type 0 where
  pub few : length items ≤ 256
  pub ranged : All IsRangedItem items
  pub crosses : All HasNarrowCrosses items
  pub names : All (IsOfNames (names_of config hooks)) items
  pub levels : All (UsesLevels (length (names_of config hooks).levels)) items
  pub calls : All (CallsHooks hooks) items
  pub no_calls : hooks ≡ [] → All CallsNothing items
  pub phases : HasNamedPhases items

-- the items of a table that uses the names of a config of a Registry that was read
abbrev pub BoundTablesAreSound : Type 0
BoundTablesAreSound =
    (files : List SourceFile) (defines : Defines) (registry : Registry) (namelist : Namelist)
    (config : Config) (hooks : List HookName) (text : List ℕ) (items : List Item)
    → registry_of files defines ≡ Ok registry → config_of registry namelist ≡ Ok config
    → All HasFewArguments hooks
    → table_of text (names_of config hooks) ≡ Ok items → AreItemsOf config hooks items
