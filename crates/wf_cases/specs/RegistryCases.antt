-- Worked cases of the Registry.
use Rattle.std.specs.Prelude.{ℕ, ◌≡◌, ◌+◌, ◌/◌, ◌%◌, List, [], ◌∷◌, ◌++◌, map, Result, Ok, Err}
use Rattle.std.specs.Prelude.{codes}
use Rattle.std.specs.List.{range_with_len}
use Rattle.wf_model.specs.declared.registry.SourceFile.{SourceFile}
use Rattle.wf_model.specs.declared.registry.Registry.{Registry}
use Rattle.wf_model.specs.declared.registry.RegistryFault.{RegistryFault}
use Rattle.wf_model.specs.declared.registry.RegistryKind.{RegistryKind}
use Rattle.wf_model.specs.declared.registry.RegistryKind.TheVariants.{MissingFile, MissingInclude}
use Rattle.wf_model.specs.declared.registry.RegistryKind.TheVariants.{IncludeLoop, UnclosedIf}
use Rattle.wf_model.specs.declared.registry.RegistryKind.TheVariants.{StrayEndif, UnknownEntry}
use Rattle.wf_model.specs.declared.registry.RegistryKind.TheVariants.{Columns, BadNumber, BadPoints}
use Rattle.wf_model.specs.declared.registry.RegistryKind.TheVariants.{Unsupported, UnknownName}
use Rattle.wf_model.specs.declared.registry.RegistryKind.TheVariants.{Duplicate, BadText, NotText}
use Rattle.wf_model.specs.declared.registry.RegistryKind.TheVariants.{TooLong}
use Rattle.wf_model.specs.declared.registry.Entry.TheVariants.{Dimspec, State}
use Rattle.wf_model.specs.Registry.{registry_of}
use Rattle.wf_model.specs.GenCase.{lines}
use Rattle.wf_cases.specs.Texts.{file, registry, after_dimspecs, after_field}

abbrev pub refused : ℕ → RegistryKind → Result Registry RegistryFault
refused n kind = Err (record { file = codes "Registry"; line = n; kind = kind })

-- what the Registry of these lines is, with nothing defined
abbrev pub read : List (List ℕ) → Result Registry RegistryFault
read ls = registry_of (registry ls) []

pub record RegistryRefusals : Type 0 where
  pub empty_store : registry_of [] [] ≡ refused 0 MissingFile
  pub not_text : registry_of (file (codes "Registry") (255 ∷ []) ∷ []) [] ≡ refused 0 NotText
  pub unknown_entry : read (after_dimspecs (codes "sate integer a ij misc 1 - - A" ∷ []))
      ≡ refused 3 UnknownEntry
  pub missing_include : read (codes "include more" ∷ []) ≡ refused 1 (MissingInclude (codes "more"))
  pub include_loop : read (codes "include Registry" ∷ []) ≡ refused 1 IncludeLoop
  pub unclosed_if : read (after_dimspecs (codes "ifdef X=1" ∷ [])) ≡ refused 3 UnclosedIf
  -- what an ifdef drops isn't judged, but its endif counts
  pub stray_endif : read (codes "ifdef X=1" ∷ codes "nonsense" ∷ codes "endif" ∷ codes "endif" ∷ [])
      ≡ refused 4 StrayEndif
  pub five_points : read (after_field (codes "halo h5 misc 5:a" ∷ [])) ≡ refused 4 BadPoints
  pub few_columns : read (after_dimspecs (codes "state integer a ij" ∷ [])) ≡ refused 3 Columns
  pub wrong_default : read (codes "rconfig integer n namelist,domains 1 .true." ∷ [])
      ≡ refused 1 BadNumber
  -- an unknown name counts only where nothing else is wrong, also further on
  pub unknown_name : read (after_field (codes "halo h4 misc 4:nosuch" ∷ [])) ≡ refused 4 UnknownName
  pub unknown_name_waits : read (codes "halo h4 misc 4:nosuch"
      ∷ after_field (codes "sate integer b ij misc 1 - -" ∷ [])) ≡ refused 5 UnknownEntry
  pub repeated_symbol : read (after_field (codes "state real A ij misc 1 - -" ∷ []))
      ≡ refused 4 Duplicate
  -- the levels of a field with two are names too
  pub level_taken : read (after_dimspecs (codes "state integer a_1 ij misc 1 - - X"
      ∷ codes "state integer a ij misc 2 - - Y" ∷ [])) ≡ refused 4 Duplicate
  -- good lines come before a text that is bad further on
  pub bad_text : read (after_field (codes "halo h4 \"x" ∷ [])) ≡ refused 4 BadText
  pub bad_text_waits : read (after_dimspecs (codes "halo h4" ∷ codes "halo \"x" ∷ []))
      ≡ refused 3 Columns

pub record RegistryUnsupported : Type 0 where
  pub kind_left_out : read (codes "typedef integer a" ∷ []) ≡ refused 1 Unsupported
  pub range : read (codes "dimspec k 2 constant=0:9 z soil" ∷ []) ≡ refused 1 Unsupported
  pub constant_in_x : read (codes "dimspec i 1 constant=9 x west_east" ∷ []) ≡ refused 1 Unsupported
  pub no_dims : read (codes "state integer a - misc 1 - - A" ∷ []) ≡ refused 1 Unsupported
  -- the order of the letters is by all lines, also later ones
  pub wrong_order : read (codes "state integer a ji misc 1 - - A" ∷ after_dimspecs [])
      ≡ refused 1 Unsupported
  pub boundary_array : read (after_dimspecs (codes "state integer a ijb misc 1 - - A" ∷ []))
      ≡ refused 3 Unsupported
  pub three_levels : read (after_dimspecs (codes "state integer a ij misc 3 - - A" ∷ []))
      ≡ refused 3 Unsupported
  pub braces : read (after_dimspecs (codes "state integer a ij misc 1 - h{10} A" ∷ []))
      ≡ refused 3 Unsupported

pub record RegistryRead : Type 0 where
  -- a real field that isn't active is no refusal of the Registry
  pub real_state : read (codes "state real rain ij misc 1 - rh \"RAIN\"" ∷ []) ≡
      Ok (record {
        entries = State (codes "real") (codes "rain") (codes "ij") (codes "1") (codes "-")
            (codes "rh") (codes "RAIN") (codes "-") (codes "-") ∷ [];
      })
  -- a name that is defined ignores case
  pub kept_by_define : registry_of (registry (codes "ifdef x=1" ∷ codes "nonsense" ∷ codes "endif"
      ∷ [])) ((codes "X", codes "1") ∷ []) ≡ refused 2 UnknownEntry
  -- a file stands in place of its include
  pub with_include : registry_of (file (codes "Registry")
      (lines (codes "include dims" ∷ codes "state integer a ij misc 1 - - A" ∷ []))
      ∷ file (codes "dims") (lines (after_dimspecs [])) ∷ []) [] ≡
      Ok (record {
        entries =
            Dimspec 105 (codes "standard_domain") 120 (codes "west_east")
            ∷ Dimspec 106 (codes "standard_domain") 121 (codes "south_north")
            ∷ State (codes "integer") (codes "a") (codes "ij") (codes "1") (codes "-") (codes "-")
            (codes "A") (codes "-") (codes "-") ∷ [];
      })

-- ---- files that include each other in a row: faa, fab and so on

abbrev pub name_of : ℕ → List ℕ
name_of n = 102 ∷ (97 + n / 26) ∷ (97 + n % 26) ∷ []

-- `Registry` and n more files, of which each includes the next
abbrev pub row_of : ℕ → List SourceFile
row_of n = file (codes "Registry") (codes "include faa")
    ∷ map (λ k. file (name_of k) (codes "include " ++ name_of (k + 1))) (range_with_len 0 n)

-- `Registry` counts as the first file. With sixty-four the last one's include is one too many,
-- whether it is there or not
pub record RegistryFiles : Type 0 where
  pub sixty_five : registry_of (row_of 70) []
      ≡ Err (record { file = name_of 62; line = 1; kind = TooLong })
  pub sixty_fifth_not_there : registry_of (row_of 63) []
      ≡ Err (record { file = name_of 62; line = 1; kind = TooLong })
  pub sixty_fourth_not_there : registry_of (row_of 62) []
      ≡ Err (record { file = name_of 61; line = 1; kind = MissingInclude (name_of 62) })
