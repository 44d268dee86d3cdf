-- The field levels of a sound config are ranged, each has its pair, and a table names them in
-- their order.
use Rattle.std.specs.Prelude.{◌≡◌, ℕ, ◌<◌, Bool, List, map, length, ℤ, pos, ◌≤ℤ◌, unsigned_abs, All}
use Rattle.std.specs.Prelude.{None, slice_index_or}
use Rattle.wf_model.specs.declared.config.Config.{Config}
use Rattle.wf_model.specs.declared.plan.Field.{Field}
use Rattle.wf_model.specs.declared.plan.Plan.{Plan}
use Rattle.wf_model.specs.declared.table.HookName.{HookName}
use Rattle.wf_model.specs.Letters.{Text}
use Rattle.wf_model.specs.Plans.{no_field, nz}
use Rattle.wf_model.specs.Ranges.{IsRangedField, most_levels}
use Rattle.wf_model.specs.Sound.{IsLevel, IsSoundPair}
use Rattle.wf_model.specs.Reading.{first_fault}
use Rattle.wf_model.specs.PlanTests.{extent_at, extent_fault}
use Rattle.wf_model.specs.PlanFields.{fields_from, z_extents}
use Rattle.wf_model.specs.NamesOf.{names_of}
use Rattle.wf_registry_laws.specs.RegistryLaws.{AreDistinct}
use Rattle.wf_registry_laws.specs.ConfigLaws.{IsSoundConfig}

-- the field levels of a config
abbrev pub field_levels : Config → List HookName → List Field
field_levels config hooks = fields_from config hooks 0 config.fields

-- an extent in z, with its sign
pub record IsRangedExtent (z : ℤ) : Type 0 where
  pub low : pos 1 ≤ℤ z
  pub high : z ≤ℤ pos most_levels

-- where each extent in z is in its range, each level is in all of its own
abbrev pub LevelsAreRanged : Type 0
LevelsAreRanged = (config : Config) (hooks : List HookName) → IsSoundConfig config →
    All IsRangedExtent (z_extents config) → All IsRangedField (field_levels config hooks)

-- each level has its extent, without the sign: so there are as many
abbrev pub LevelsHaveTheExtents : Type 0
LevelsHaveTheExtents = (config : Config) (hooks : List HookName) →
    map (λ (f : Field). f.nz) (field_levels config hooks) ≡ map unsigned_abs (z_extents config)

-- where they are in their ranges, they are the numbers of the levels
abbrev pub ExtentsAreTheLevels : Type 0
ExtentsAreTheLevels =
    (config : Config) (hooks : List HookName) → All IsRangedExtent (z_extents config) →
    map (λ (f : Field). pos f.nz) (field_levels config hooks) ≡ z_extents config

-- by its number, in a plan of these levels; past the end both are 0
abbrev pub ExtentsAreNumbered : Type 0
ExtentsAreNumbered =
    (config : Config) (hooks : List HookName) (plan : Plan) →
    plan.fields ≡ field_levels config hooks → All IsRangedExtent (z_extents config) →
    (f : ℕ) → extent_at (z_extents config) f ≡ pos (nz plan f)

-- extents that a plan's test passes are in their ranges
abbrev pub PassedExtentsAreRanged : Type 0
PassedExtentsAreRanged =
    (zs : List ℤ) → first_fault (map extent_fault zs) ≡ None → All IsRangedExtent zs

-- in a plan of these levels each has its pair
abbrev pub PairsAreSound : Type 0
PairsAreSound = (config : Config) (hooks : List HookName) (plan : Plan) →
    plan.fields ≡ field_levels config hooks → (f : ℕ) → IsLevel plan f → IsSoundPair plan f

-- a level's name, and whether it has a z letter
abbrev pub name_and_z : Field → Text × Bool
name_and_z f = (f.name, f.z)

-- a table names the levels in their order, and says which have a z letter
abbrev pub NamesAreTheLevels : Type 0
NamesAreTheLevels = (config : Config) (hooks : List HookName) →
    let names = names_of config hooks in names.levels ≡ map name_and_z (field_levels config hooks)

-- no two levels have one name
abbrev pub LevelNamesAreDistinct : Type 0
LevelNamesAreDistinct = (config : Config) (hooks : List HookName) → IsSoundConfig config →
    AreDistinct (map (λ (f : Field). f.name) (field_levels config hooks))

-- the level of a number
abbrev pub level : List Field → ℕ → Field
level fs f = slice_index_or fs f no_field

-- a symbol with the numbers of its first and last level: these levels are one another's pair
pub record IsNamedPair (fs : List Field) (n : Text × ℕ × ℕ) : Type 0 where
  pub first : n.1 < length fs
  pub last : n.2 < length fs
  pub pair : (level fs n.1).pair ≡ n.2
  pub back : (level fs n.2).pair ≡ n.1

-- what a table may swap are pairs of levels
abbrev pub NamedFieldsArePairs : Type 0
NamedFieldsArePairs = (config : Config) (hooks : List HookName) →
    let names = names_of config hooks in All (IsNamedPair (field_levels config hooks)) names.fields
