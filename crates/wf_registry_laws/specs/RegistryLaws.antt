-- A Registry that was read is sound: each entry keeps the rules of its kind, and no name is
-- declared twice.
use Rattle.std.specs.Prelude.{◌≡◌, List, [], ◌∷◌, ◌++◌, flat_map, IsTrue, All, Ok, if◌then◌else◌}
use Rattle.std.specs.Prelude.{codes}
use Rattle.std.specs.List.{IsDistinct}
use Rattle.std.specs.Str.{bytes_eq}
use Rattle.wf_model.specs.declared.registry.SourceFile.{SourceFile}
use Rattle.wf_model.specs.declared.registry.Registry.{Registry}
use Rattle.wf_model.specs.declared.registry.Entry.{Entry}
use Rattle.wf_model.specs.declared.registry.Entry.TheVariants.{State}
use Rattle.wf_model.specs.Letters.{Text}
use Rattle.wf_model.specs.KeptLines.{Defines}
use Rattle.wf_model.specs.Entries.{Kind, is_two, suffixed, same_kind, entry_name, entry_levels}
use Rattle.wf_model.specs.Entries.{entry_variables, entry_datasets}
use Rattle.wf_model.specs.Judging.{taken_datasets}
use Rattle.wf_model.specs.Registry.{registry_of, names_known}
use Rattle.wf_registry_laws.specs.EntryRules.{IsSoundEntry}

-- no two texts are equal
abbrev pub AreDistinct : List Text → Type 0
AreDistinct names = IsDistinct bytes_eq names

-- the name of an entry of this kind; of a dimspec its letter
abbrev pub names_of_kind : Kind → Entry → List Text
names_of_kind kind e = if same_kind kind (entry_name e).0 then (entry_name e).1 ∷ [] else []

-- the names that a field takes: its symbol, and those of its levels that aren't its symbol
abbrev pub taken_by : Entry → List Text
taken_by (State kind symbol dims levels stagger io dname description units) =
    symbol ∷ (if is_two levels then suffixed symbol else [])
taken_by e = []

pub record IsSoundRegistry (entries : List Entry) : Type 0 where
  pub rules : All (IsSoundEntry entries) entries
  -- each name that an entry uses is declared
  pub known : All (λ e. IsTrue (names_known entries e)) entries
  -- no two of a kind have one name: states by their symbols, dimspecs by their letters
  pub names : (kind : Kind) → AreDistinct (flat_map (names_of_kind kind) entries)
  -- symbols and levels are of one sort
  pub taken : AreDistinct (flat_map taken_by entries)
  pub levels : AreDistinct (flat_map entry_levels entries)
  -- and none is the name of a variable or dimension that every file has
  pub variables : AreDistinct (codes "Times" ∷ flat_map entry_variables entries)
  pub datasets : AreDistinct (taken_datasets ++ flat_map entry_datasets entries)

-- what is read is sound
abbrev pub RegistriesAreSound : Type 0
RegistriesAreSound = (files : List SourceFile) (defines : Defines) (registry : Registry) →
    registry_of files defines ≡ Ok registry → IsSoundRegistry registry.entries
