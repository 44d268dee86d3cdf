-- A config of a sound Registry is sound: its dimensions, fields, halos and periods keep
-- their rules.
use Rattle.std.specs.Prelude.{◌≡◌, List, ◌∷◌, ◌++◌, flat_map, IsTrue, All, Ok, codes}
use Rattle.wf_model.specs.declared.registry.Registry.{Registry}
use Rattle.wf_model.specs.declared.registry.Entry.{Entry}
use Rattle.wf_model.specs.declared.registry.Entry.TheVariants.{Dimspec, State, Halo, Period}
use Rattle.wf_model.specs.declared.namelist.Namelist.{Namelist}
use Rattle.wf_model.specs.declared.config.Config.{Config}
use Rattle.wf_model.specs.Letters.{Text, is_name}
use Rattle.wf_model.specs.Groups.{points_head, width_head}
use Rattle.wf_model.specs.Entries.{is_integer, entry_levels, entry_variables, entry_datasets}
use Rattle.wf_model.specs.Entries as kinds
use Rattle.wf_model.specs.Judging.{taken_datasets}
use Rattle.wf_model.specs.Config.{config_of}
use Rattle.wf_registry_laws.specs.EntryRules.{IsSoundDimspec, IsSoundInteger, IsSoundExchange}
use Rattle.wf_registry_laws.specs.RegistryLaws.{AreDistinct, names_of_kind, taken_by}
use Rattle.wf_registry_laws.specs.RegistryLaws.{IsSoundRegistry}

-- a dimspec that keeps its rules
abbrev pub IsSoundDimension : Entry → Type 0
IsSoundDimension (Dimspec letter how axis dataset) = IsSoundDimspec letter how axis dataset
IsSoundDimension other = ⊥

-- an integer field that keeps its rules, with letters of these dimspecs
pub record IsActive (all : List Entry)
    (kind symbol dims levels stagger io dname description units : Text) : Type 0 where
  pub integer : IsTrue (is_integer kind)
  pub named : IsTrue (is_name symbol)
  pub columns : IsSoundInteger all symbol dims levels stagger io dname description units

abbrev pub IsSoundField : List Entry → Entry → Type 0
IsSoundField all (State kind symbol dims levels stagger io dname description units) =
    IsActive all kind symbol dims levels stagger io dname description units
IsSoundField all other = ⊥

abbrev pub IsSoundHalo : Entry → Type 0
IsSoundHalo (Halo name groups) = IsSoundExchange points_head name groups
IsSoundHalo other = ⊥

abbrev pub IsSoundPeriod : Entry → Type 0
IsSoundPeriod (Period name groups) = IsSoundExchange width_head name groups
IsSoundPeriod other = ⊥

pub record IsSoundConfig (config : Config) : Type 0 where
  pub dims : All IsSoundDimension config.dims
  pub fields : All (IsSoundField config.dims) config.fields
  pub halos : All IsSoundHalo config.halos
  pub periods : All IsSoundPeriod config.periods
  pub letters : AreDistinct (flat_map (names_of_kind kinds.dimspecs) config.dims)
  pub symbols : AreDistinct (flat_map (names_of_kind kinds.states) config.fields)
  pub halo_names : AreDistinct (flat_map (names_of_kind kinds.halos) config.halos)
  pub period_names : AreDistinct (flat_map (names_of_kind kinds.periods) config.periods)
  pub taken : AreDistinct (flat_map taken_by config.fields)
  pub levels : AreDistinct (flat_map entry_levels config.fields)
  -- and none is the name of a variable or dimension that every file has
  pub variables : AreDistinct (codes "Times" ∷ flat_map entry_variables config.fields)
  pub datasets : AreDistinct (taken_datasets ++ flat_map entry_datasets config.dims)

-- what a namelist is bound to is sound
abbrev pub ConfigsAreSound : Type 0
ConfigsAreSound = (registry : Registry) (namelist : Namelist) (config : Config) →
    IsSoundRegistry registry.entries → config_of registry namelist ≡ Ok config →
    IsSoundConfig config
