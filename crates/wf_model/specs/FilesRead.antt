-- The files of a command, read and judged in order. The first refusal ends it.
use Rattle.std.specs.Prelude.{ℕ, zero, suc, List, [], ◌∷◌, ◌++◌, Option, Some, None, Result, Ok}
use Rattle.std.specs.Prelude.{Err, if◌then◌else◌, codes}
use Rattle.std.specs.Str.{is_utf8}
use Rattle.wf_model.specs.declared.registry.SourceFile.{SourceFile}
use Rattle.wf_model.specs.declared.registry.Registry.{Registry}
use Rattle.wf_model.specs.declared.registry.RegistryFault.{RegistryFault}
use Rattle.wf_model.specs.declared.registry.RegistryKind.{RegistryKind}
use Rattle.wf_model.specs.declared.registry.RegistryKind.TheVariants.{MissingInclude}
use Rattle.wf_model.specs.declared.namelist.Namelist.{Namelist}
use Rattle.wf_model.specs.declared.config.Config.{Config}
use Rattle.wf_model.specs.declared.table.HookName.{HookName}
use Rattle.wf_model.specs.declared.plan.Item.{Item}
use Rattle.wf_model.specs.declared.plan.Plan.{Plan}
use Rattle.wf_model.specs.declared.layout.Layout.{Layout}
use Rattle.wf_model.specs.declared.initial.Initial.{Initial}
use Rattle.wf_model.specs.Reading.{◌>>=◌, told_as, unless_fault}
use Rattle.wf_model.specs.Letters.{Text, is_store_name}
use Rattle.wf_model.specs.KeptLines.{Defines, main_file, most_files}
use Rattle.wf_model.specs.Registry.{registry_of}
use Rattle.wf_model.specs.Namelist.{namelist_of}
use Rattle.wf_model.specs.Config.{config_of}
use Rattle.wf_model.specs.NamesOf.{names_of}
use Rattle.wf_model.specs.Table.{table_of}
use Rattle.wf_model.specs.PlanOf.{plan_of, layout_of}
use Rattle.wf_model.specs.InputOf.{input_of}
use Rattle.wf_model.specs.Uncovered.{first_uncovered, first_lost}
use Rattle.wf_model.specs.Files.{Files}
use Rattle.wf_model.specs.Refusals.{Refusal, numbered, registry_refusal, namelist_refusal}
use Rattle.wf_model.specs.Refusals.{config_refusal, table_refusal, plan_refusal, restart_refusal}
use Rattle.wf_model.specs.Refusals.{halo_refusal, input_refusal, layout_refusal}
use Rattle.std.specs.Option.{option_map}

-- ---- the Registry: a file that an include wants is read, and the Registry is asked for again

-- a name that no store takes is of no file
abbrev pub wanted_file : Files → Text → Option (List ℕ)
wanted_file files name = if is_store_name name then files name else None

abbrev pub source : Text → List ℕ → SourceFile
source name text = record { name = name; text = text }

-- the include that is wanted
abbrev pub wanted : RegistryKind → Option Text
wanted (MissingInclude name) = Some name
wanted other = None

-- once more, with the wanted file, if there is one
abbrev pub with_wanted : (List SourceFile → Result Registry RegistryFault) → List SourceFile →
    RegistryFault → Text → Option (List ℕ) → Result Registry RegistryFault
with_wanted again have f name None = Err f
with_wanted again have f name (Some text) = again (have ++ (source name text ∷ []))

abbrev pub after_wanted : (List SourceFile → Result Registry RegistryFault) → Files →
    List SourceFile → RegistryFault → Option Text → Result Registry RegistryFault
after_wanted again files have f None = Err f
after_wanted again files have f (Some name) = with_wanted again have f name (wanted_file files name)

abbrev pub or_wanted : (List SourceFile → Result Registry RegistryFault) → Files → List SourceFile →
    Result Registry RegistryFault → Result Registry RegistryFault
or_wanted again files have (Ok r) = Ok r
or_wanted again files have (Err f) = after_wanted again files have f (wanted f.kind)

-- at most so many more files are read
unfoldable pub registry_with : ℕ → Files → Defines → List SourceFile → Result Registry RegistryFault
registry_with zero files defines have = registry_of have defines
registry_with (suc n) files defines have =
    or_wanted (registry_with n files defines) files have (registry_of have defines)

abbrev pub main_source : Option (List ℕ) → List SourceFile
main_source None = []
main_source (Some text) = source main_file text ∷ []

-- the Registry of a store
unfoldable pub registry_read : Files → Defines → Result Registry Refusal
registry_read files defines = told_as registry_refusal
    (registry_with most_files files defines (main_source (files main_file)))

-- ---- the namelist and the table

abbrev pub namelist_text : Option (List ℕ) → Result Namelist Refusal
namelist_text None = Err (numbered 3 (codes "namelist") 0 (codes "MissingFile"))
namelist_text (Some text) =
    if is_utf8 text then told_as namelist_refusal (namelist_of text)
    else Err (numbered 3 (codes "namelist") 0 (codes "NotText"))

abbrev pub table_text : Config → List HookName → Option (List ℕ) → Result (List Item) Refusal
table_text config hooks None = Err (numbered 4 (codes "table") 0 (codes "MissingFile"))
table_text config hooks (Some text) = told_as table_refusal (table_of text (names_of config hooks))

-- ---- the config, the plan, the layout and what a run begins with

-- what the texts give
abbrev pub Planned : Type 0
Planned = Config × Plan

-- the config of the texts: Registry, namelist
unfoldable pub config_read : Files → Defines → Result Config Refusal
config_read files defines =
    registry_read files defines >>= λ registry.
    namelist_text (files (codes "namelist.input")) >>= λ namelist.
    told_as config_refusal (config_of registry namelist)

-- the plan of a config and of the table
unfoldable pub plan_made : List HookName → Files → Config → Result Plan Refusal
plan_made hooks files config =
    table_text config hooks (files (codes "stencil.table")) >>= λ items.
    told_as plan_refusal (plan_of config hooks items)

-- the texts in order: Registry, namelist, table; then the plan and the restart rule
unfoldable pub plan_read : List HookName → Files → Defines → Result Planned Refusal
plan_read hooks files defines =
    config_read files defines >>= λ config.
    plan_made hooks files config >>= λ plan.
    unless_fault (option_map (restart_refusal plan) (first_lost plan)) (config, plan)

-- the halo rule, and then the layout
abbrev pub layout_read : Config → Plan → ℕ → Result Layout Refusal
layout_read config plan workers =
    unless_fault (option_map (halo_refusal plan) (first_uncovered plan)) plan >>= λ checked.
    told_as layout_refusal (layout_of config checked workers)

-- the input and restart files
abbrev pub inputs_read : Files → Plan → Result Initial Refusal
inputs_read files plan = told_as input_refusal (input_of files plan)
