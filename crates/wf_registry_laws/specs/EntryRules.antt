-- What the entries of a Registry that was read keep, kind by kind.
use Rattle.std.specs.Prelude.{◌≡◌, ◌⊎◌, ℕ, ◌≤◌, List, length, IsTrue, Ok, None, Option, All}
use Rattle.std.specs.Char.{is_ascii_alphabetic}
use Rattle.wf_model.specs.declared.registry.Entry.{Entry}
use Rattle.wf_model.specs.declared.registry.Entry.TheVariants.{Dimspec, State, Rconfig, Package}
use Rattle.wf_model.specs.declared.registry.Entry.TheVariants.{Halo, Period}
use Rattle.wf_model.specs.declared.registry.RegistryKind.{RegistryKind}
use Rattle.wf_model.specs.Letters.{Text, is_name, is_number_within, begins, behind, is_dash}
use Rattle.wf_model.specs.ValueForms.{has}
use Rattle.wf_model.specs.Io.{io_of, parts_of, is_colon}
use Rattle.wf_model.specs.Groups.{groups_of, names_in, head_of, state_head, points_head, width_head}
use Rattle.wf_model.specs.Entries.{is_integer, is_two, variable_of}
use Rattle.wf_model.specs.Judging.{is_standard, constant, by_namelist, all_known, is_in_order}
use Rattle.wf_model.specs.Judging.{is_stagger, has_z, is_state_type, type_fault, is_rconfig_how}
use Rattle.wf_model.specs.Judging.{entries_fault, is_default}

-- ---- dimspec

-- the domain's own extent, a number from 1 to 128, or the value of a name
abbrev pub IsHow : Text → Type 0
IsHow how =
    IsTrue (is_standard how)
    ⊎ (IsTrue (begins how constant) × IsTrue (is_number_within 1 128 (behind how constant)))
    ⊎ (IsTrue (begins how by_namelist) × IsTrue (is_name (behind how by_namelist)))

-- the bytes x, y and z
abbrev pub IsAxis : ℕ → Type 0
IsAxis axis = (axis ≡ 120) ⊎ (axis ≡ 121) ⊎ (axis ≡ 122)

pub record IsSoundDimspec (letter : ℕ) (how : Text) (axis : ℕ) (dataset : Text) : Type 0 where
  pub alphabetic : IsTrue (is_ascii_alphabetic letter)
  pub extent : IsHow how
  pub along : IsAxis axis
  -- in x and y the extent is the domain's own
  pub standard : (axis ≡ 122 → ⊥) → IsTrue (is_standard how)
  pub named : IsTrue (is_name dataset)

-- ---- state

-- an integer field, where these are all entries
pub record IsSoundInteger (all : List Entry)
    (symbol dims levels stagger io dname description units : Text) : Type 0 where
  -- two or three letters, each of a dimspec, with the axes x and y, or x, z and y
  pub count : (length dims ≡ 2) ⊎ (length dims ≡ 3)
  pub known : IsTrue (all_known all dims)
  pub ordered : IsTrue (is_in_order all dims)
  pub one_or_two : IsTrue (is_number_within 1 2 levels)
  -- with `_1` or `_2` it is a name yet
  pub short : IsTrue (is_two levels) → length symbol ≤ 62
  pub staggered : IsTrue (is_dash stagger) ⊎ IsTrue (is_stagger stagger)
  -- Z wants a z letter
  pub high : IsTrue (has_z stagger) → length dims ≡ 3
  pub io_is_read : io_of io ≡ Ok (parts_of (io_of io))
  pub variable : IsTrue (is_name (variable_of symbol dname))
  pub described : length description ≤ 256
  pub unit : length units ≤ 256

pub record IsSoundState (all : List Entry)
    (kind symbol dims levels stagger io dname description units : Text) : Type 0 where
  pub type : IsTrue (is_state_type kind)
  pub named : IsTrue (is_name symbol)
  pub integer : IsTrue (is_integer kind) →
      IsSoundInteger all symbol dims levels stagger io dname description units

-- ---- rconfig and package

pub record IsSoundRconfig (kind symbol how entries default : Text) : Type 0 where
  pub type : type_fault kind ≡ None
  pub named : IsTrue (is_name symbol)
  pub how_is : IsTrue (is_rconfig_how how)
  pub count : entries_fault entries ≡ None
  pub default_is : IsTrue (is_default kind default)

-- a group: a head that keeps a rule, a colon, and names
pub record IsSoundGroup (head : Text → Option RegistryKind) (group : Text) : Type 0 where
  pub colon : IsTrue (has is_colon group)
  pub first : head (head_of group) ≡ None
  pub names : All (λ name. IsTrue (is_name name)) (names_in group)

pub record IsSoundPackage (name symbol list : Text) : Type 0 where
  pub named : IsTrue (is_name name)
  pub by : IsTrue (is_name symbol)
  pub groups : IsTrue (is_dash list) ⊎ All (IsSoundGroup state_head) (groups_of list)

-- ---- halo and period

pub record IsSoundExchange (head : Text → Option RegistryKind) (name groups : Text) : Type 0 where
  pub named : IsTrue (is_name name)
  pub parts : All (IsSoundGroup head) (groups_of groups)

-- ---- an entry, where these are all entries

abbrev pub IsSoundEntry : List Entry → Entry → Type 0
IsSoundEntry all (Dimspec letter how axis dataset) = IsSoundDimspec letter how axis dataset
IsSoundEntry all (State kind symbol dims levels stagger io dname description units) =
    IsSoundState all kind symbol dims levels stagger io dname description units
IsSoundEntry all (Rconfig kind symbol how entries default) =
    IsSoundRconfig kind symbol how entries default
IsSoundEntry all (Package name symbol value list) = IsSoundPackage name symbol list
IsSoundEntry all (Halo name groups) = IsSoundExchange points_head name groups
IsSoundEntry all (Period name groups) = IsSoundExchange width_head name groups
