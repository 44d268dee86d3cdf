-- Which files a store is asked for, and what reading leaves of a store.
use Rattle.std.specs.Prelude.{◌≡◌, ℕ, zero, suc, ◌≤◌, Bool, ◌||◌, ◌==◌, List, [], ◌∷◌, ◌++◌, Option}
use Rattle.std.specs.Prelude.{Some, None, option_map, option_and_then, Result, Ok, Err}
use Rattle.std.specs.Prelude.{if◌then◌else◌, IsTrue, Contains, codes}
use Rattle.wf_model.specs.declared.registry.SourceFile.{SourceFile}
use Rattle.wf_model.specs.declared.registry.Registry.{Registry}
use Rattle.wf_model.specs.declared.registry.RegistryFault.{RegistryFault}
use Rattle.wf_model.specs.Letters.{Text, is_name_byte, is_store_name}
use Rattle.wf_model.specs.KeptLines.{Defines, main_file, most_files}
use Rattle.wf_model.specs.Registry.{registry_of}
use Rattle.wf_model.specs.Files.{Files}
use Rattle.wf_model.specs.StoreRuns.{Told}
use Rattle.wf_model.specs.Refusals.{Refusal}
use Rattle.wf_setup.specs.declared.error.SetupError.{SetupError}
use Rattle.wf_setup.specs.declared.error.SetupError.TheVariants as setup
use Rattle.wf_model.specs.FilesRead.{source, wanted, wanted_file, main_source, registry_read}
use Rattle.wf_model.specs.FilesRead.{config_read}

-- a byte of a name that a store takes: of a name, or `-` (45), `.` (46) or `:` (58)
abbrev pub is_store_byte : ℕ → Bool
is_store_byte b = is_name_byte b || (b == 45) || (b == 46) || (b == 58)

-- ---- the file that a Registry's fault wants, where it is there

abbrev pub source_named : Files → Text → Option SourceFile
source_named files name = option_map (source name) (wanted_file files name)

abbrev pub wanted_source : Files → RegistryFault → Option SourceFile
wanted_source files f = option_and_then (source_named files) (wanted f.kind)

-- the Registry of these files wants this one, whose name a store takes
pub record IsWanted (have : List SourceFile) (defines : Defines) (name : Text) : Type 0 where
  pub fault : RegistryFault
  pub refused : registry_of have defines ≡ Err fault
  pub wants : wanted fault.kind ≡ Some name
  pub takes : IsTrue (is_store_name name)

-- ---- the names that a store is asked for, in order

-- those that are asked for when a wanted file was read, and none where it isn't there
abbrev pub names_behind : (List SourceFile → List Text) → List SourceFile →
    Option SourceFile → List Text
names_behind again have None = []
names_behind again have (Some f) = again (have ++ (f ∷ []))

-- a wanted file is asked for, if a store takes its name
abbrev pub names_wanted : (List SourceFile → List Text) → Files → List SourceFile →
    Option Text → List Text
names_wanted again files have None = []
names_wanted again files have (Some name) =
    if is_store_name name then name ∷ names_behind again have (source_named files name) else []

abbrev pub names_after : (List SourceFile → List Text) → Files → List SourceFile →
    Result Registry RegistryFault → List Text
names_after again files have (Ok r) = []
names_after again files have (Err f) = names_wanted again files have (wanted f.kind)

-- the includes that are asked for, at most so many
unfoldable pub includes_asked : ℕ → Files → Defines → List SourceFile → List Text
includes_asked zero files defines have = []
includes_asked (suc n) files defines have =
    names_after (includes_asked n files defines) files have (registry_of have defines)

-- what is asked for then, unless something was refused
abbrev pub unless_refused : {A : Type 0} → Result A Refusal → List Text → List Text
unless_refused (Ok a) names = names
unless_refused (Err x) names = []

-- for the Registry
unfoldable pub registry_names : Files → Defines → List Text
registry_names files defines =
    main_file ∷ includes_asked most_files files defines (main_source (files main_file))

-- for a config
unfoldable pub config_names : Files → Defines → List Text
config_names files defines = registry_names files defines
    ++ unless_refused (registry_read files defines) (codes "namelist.input" ∷ [])

-- for a config and a table
unfoldable pub case_names : Files → Defines → List Text
case_names files defines = config_names files defines
    ++ unless_refused (config_read files defines) (codes "stencil.table" ∷ [])

-- where the error is a fault of the store, its file is one of these
abbrev pub FaultAmong : SetupError → List Text → Type 0
FaultAmong (setup.Refused r) names = Unit {0}
FaultAmong (setup.Store name) names = Contains names name
FaultAmong setup.Memory names = Unit {0}

-- and it is a file that the Registry of these files wants
abbrev pub FaultWanted : SetupError → List SourceFile → Defines → Type 0
FaultWanted (setup.Refused r) have defines = Unit {0}
FaultWanted (setup.Store name) have defines = IsWanted have defines name
FaultWanted setup.Memory have defines = Unit {0}

-- and it is the file that a Registry's fault wants
abbrev pub FaultOnWanted : SetupError → RegistryFault → Type 0
FaultOnWanted (setup.Refused r) f = Unit {0}
FaultOnWanted (setup.Store name) f = (wanted f.kind ≡ Some name) × IsTrue (is_store_name name)
FaultOnWanted setup.Memory f = Unit {0}

-- ---- a store from which only was read: its files stay, and its count of faults doesn't fall
pub record OnlyRead (old new : Option Files) (before after : ℕ) : Type 0 where
  pub same : Told old new (λ m n. n ≡ m)
  pub later : before ≤ after
