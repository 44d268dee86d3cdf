-- The parts of a plan whose tests pass: items, field levels, limits, and how many domains there
-- are.
use Rattle.std.specs.Prelude.{◌≡◌, ℕ, ◌≤◌, List, length, map, ℤ, pos, None, codes}
use Rattle.std.specs.List.{All}
use Rattle.wf_model.specs.declared.config.Config.{Config}
use Rattle.wf_model.specs.declared.plan.Plan.{Plan}
use Rattle.wf_model.specs.declared.plan.Item.{Item}
use Rattle.wf_model.specs.declared.table.HookName.{HookName}
use Rattle.wf_model.specs.Reading.{first_fault}
use Rattle.wf_model.specs.Counts.{all_cells, script_items}
use Rattle.wf_model.specs.Ranges.{IsRangedField}
use Rattle.wf_model.specs.PlanDomains.{integer, domain_total}
use Rattle.wf_model.specs.PlanFields.{z_extents}
use Rattle.wf_model.specs.PlanOf.{plan_from}
use Rattle.wf_model.specs.PlanTests.{phases, unbuilt_fault, unbuilt, extent_fault, limit_faults}
use Rattle.wf_model.specs.Sound.{IsLevel, IsSoundItem, IsSoundPair, IsSoundPhase, FilesFit}
use Rattle.wf_registry_laws.specs.ConfigLaws.{IsSoundConfig}
use Rattle.wf_registry_laws.specs.FieldLaws.{field_levels}
use Rattle.wf_table_laws.specs.NamesLaws.{AreItemsOf}
use Rattle.wf_plan_laws.specs.ReadLaws.{AreExtents, NamesLevels}

-- ---- items

-- the phases of a table name levels of the plan, whose field levels are those of the config
abbrev pub PhasesNameLevels : Type 0
PhasesNameLevels =
    (config : Config) (hooks : List HookName) (plan : Plan)
    → plan.fields ≡ field_levels config hooks → AreItemsOf config hooks plan.items
    → All (NamesLevels plan) (phases plan.items)

-- where the phases are sound, so are all items
abbrev pub ItemsAreSound : Type 0
ItemsAreSound =
    (config : Config) (hooks : List HookName) (plan : Plan)
    → plan.fields ≡ field_levels config hooks → AreItemsOf config hooks plan.items
    → All (IsSoundPhase plan) (phases plan.items) → All (IsSoundItem plan) plan.items

-- ---- field levels

pub record AreSoundFields (plan : Plan) (zs : List ℤ) : Type 0 where
  pub extents : AreExtents plan zs
  pub ranged : All IsRangedField plan.fields
  pub pairs : (f : ℕ) → IsLevel plan f → IsSoundPair plan f

-- the levels of a sound config, where each extent in z passes its test
abbrev pub FieldsAreSound : Type 0
FieldsAreSound =
    (config : Config) (hooks : List HookName) (plan : Plan) → IsSoundConfig config
    → plan.fields ≡ field_levels config hooks
    → first_fault (map extent_fault (z_extents config)) ≡ None
    → AreSoundFields plan (z_extents config)

-- ---- limits

pub record PassesLimits (plan : Plan) (zs : List ℤ) : Type 0 where
  pub levels : length plan.fields ≤ 64
  pub extents : first_fault (map extent_fault zs) ≡ None
  pub cells : all_cells plan ≤ 50000000
  pub script : script_items plan ≤ 1000000
  pub files : FilesFit plan

-- where no test of limits fails, none is passed
abbrev pub LimitsAreKept : Type 0
LimitsAreKept = (plan : Plan) (zs : List ℤ) → first_fault (limit_faults plan zs) ≡ None →
    PassesLimits plan zs

-- ---- domains

-- a plan has as many domains as `max_dom` says
abbrev pub DomainsAreCounted : Type 0
DomainsAreCounted = (config : Config) (hooks : List HookName) (items : List Item) →
    let plan = plan_from config hooks items in length plan.domains ≡ domain_total config

-- before nests are built that is at most 1, where `max_dom` isn't below 0
abbrev pub DomainsAreSingle : Type 0
DomainsAreSingle =
    (config : Config) → integer config (codes "max_dom") 1 ≡ pos (domain_total config)
    → first_fault (map (unbuilt_fault config) unbuilt) ≡ None
    → domain_total config ≤ 1
