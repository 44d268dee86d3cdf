-- A file that an include names.
use Rattle.std.proofs.Common.{◌≡◌, ℕ, zero, suc, ◌-◌, ◌<◌, ◌≤◌, Bool, true, false, List, [], ◌∷◌, length, get_or, map, Some, None, refl, sym, ap, ◌∙◌, arith}
use Rattle.std.specs.Prelude.{nat_le, position, slice_get}
use Rattle.std.specs.List.{position_or_len}
use Rattle.std.specs.Str.{bytes_eq}
use Rattle.std.proofs.lemmas.Bool.Decides.{nat_tests}
use Rattle.std.proofs.lemmas.List.Sums.{passes_at_first}
use Rattle.std.proofs.lemmas.Option.{slice_get-get_or}
use Rattle.std.proofs.lemmas.Slice.Eq.{bytes_eq-Decides}
use Rattle.wf_model.specs.declared.registry.SourceFile.{SourceFile}
use Rattle.wf_model.specs.declared.registry.RegistryKind.TheVariants.{IncludeLoop, MissingFile, MissingInclude, TooLong}
use Rattle.wf_model.specs.Letters.{Text, is_among}
use Rattle.wf_model.specs.KeptLines.{Defines, Includes, Met, file_named, found_met, include_met, main_file, main_met, most_files, nothing_met, one_file, registry_lines, stop}
use Rattle.wf_registry_lines.specs.Ahead.{file_at_met}
use Rattle.wf_registry_lines.specs.Kept.{name_at, name_of}
use Rattle.wf_registry_lines.specs.Met.{includes_at}
use Rattle.wf_registry_lines.proofs.Places.{find_none, find_place, place_is}

-- ---- files with a name

abbrev pub has_name : Text → SourceFile → Bool
has_name name f = bytes_eq f.name name

abbrev nameless : SourceFile
nameless = record { name = []; text = [] }

-- the file that is found has the name
pub name_found : (files : List SourceFile) (name : Text) (k : ℕ) → position (has_name name) files ≡ Some k → k < length files → name_at files k ≡ name
name_found files name k found lt =
    let first : position_or_len (has_name name) files ≡ k = place_is (has_name name) files k found in
    let within : position_or_len (has_name name) files < length files = omega arith in
    let passes = passes_at_first (has_name name) files nameless within in
    let has : bytes_eq (get_or files k nameless).name name ≡ true = ap (λ n. bytes_eq (get_or files n nameless).name name) (sym first) ∙ passes in
    ap name_of (slice_get-get_or files k nameless lt) ∙ (bytes_eq-Decides (get_or files k nameless).name name).0 has

-- a file that is there is read
file_is_there : (defines : Defines) (include : Includes) (met : Met) (file : Text) (number : ℕ) (name : Text) (files : List SourceFile) (k : ℕ) → k < length files
    → found_met defines include met file number name (slice_get files k) ≡ file_at_met defines include (one_file met) (slice_get files k)
file_is_there defines include met file number name files k lt =
    let here : slice_get files k ≡ Some (get_or files k nameless) = slice_get-get_or files k nameless lt in
    rw here refl

-- ---- an include

module _ (depth : ℕ) (files : List SourceFile) (defines : Defines) (reading : List Text) (met : Met) (file : Text) (number : ℕ) (name : Text) where
  pub no_depth : depth ≡ 0 → include_met depth files defines reading met file number name ≡ stop met file number TooLong
  unfolding include_met
  no_depth e = rw e refl

few : (most n : ℕ) → n < most → nat_le most n ≡ false
few most n lt = grind (arith, nat_tests)

many : (most n : ℕ) → most ≤ n → nat_le most n ≡ true
many most n le = grind (arith, nat_tests)

pub many_files : (depth : ℕ) (files : List SourceFile) (defines : Defines) (reading : List Text) (met : Met) (file : Text) (number : ℕ) (name : Text)
    → most_files ≤ met.files → include_met depth files defines reading met file number name ≡ stop met file number TooLong
unfolding include_met
many_files zero files defines reading met file number name le = refl
many_files (suc d) files defines reading met file number name le = let e : nat_le most_files met.files ≡ true = many most_files met.files le in rw e refl

pub is_read : (depth : ℕ) (files : List SourceFile) (defines : Defines) (reading : List Text) (met : Met) (file : Text) (number : ℕ) (name : Text)
    → 0 < depth → met.files < most_files → is_among name reading ≡ true → include_met depth files defines reading met file number name ≡ stop met file number IncludeLoop
unfolding include_met
is_read zero files defines reading met file number name some lt among = absurd (omega arith)
is_read (suc d) files defines reading met file number name some lt among = let e : nat_le most_files met.files ≡ false = few most_files met.files lt in rw (e, among) refl

-- an include whose file isn't being read
named_is : (depth : ℕ) (files : List SourceFile) (defines : Defines) (reading : List Text) (met : Met) (file : Text) (number : ℕ) (name : Text)
    → 0 < depth → met.files < most_files → is_among name reading ≡ false
    → include_met depth files defines reading met file number name ≡ found_met defines (include_met (depth - 1) files defines (name ∷ reading)) met file number name (file_named files name)
unfolding include_met
named_is zero files defines reading met file number name some lt among = absurd (omega arith)
named_is (suc d) files defines reading met file number name some lt among =
    let e : nat_le most_files met.files ≡ false = few most_files met.files lt in
    let less : suc d - 1 ≡ d = omega arith in
    rw (e, among, less) refl

pub not_there : (depth : ℕ) (files : List SourceFile) (defines : Defines) (reading : List Text) (met : Met) (file : Text) (number : ℕ) (name : Text)
    → 0 < depth → met.files < most_files → is_among name reading ≡ false → position (has_name name) files ≡ None
    → include_met depth files defines reading met file number name ≡ stop met file number (MissingInclude name)
not_there depth files defines reading met file number name some lt among none =
    named_is depth files defines reading met file number name some lt among
    ∙ ap (found_met defines (include_met (depth - 1) files defines (name ∷ reading)) met file number name) (find_none (has_name name) files none)

pub there : (depth : ℕ) (files : List SourceFile) (defines : Defines) (reading places : List ℕ) (met : Met) (file : Text) (number : ℕ) (name : Text) (k : ℕ)
    → 0 < depth → met.files < most_files → is_among name (map (name_at files) reading) ≡ false → position (has_name name) files ≡ Some k → k < length files → places ≡ k ∷ reading
    → includes_at depth files defines reading met file number name ≡ file_at_met defines (includes_at (depth - 1) files defines places) (one_file met) (slice_get files k)
there depth files defines reading places met file number name k some lt among found within e =
    named_is depth files defines (map (name_at files) reading) met file number name some lt among
    ∙ ap (found_met defines (include_met (depth - 1) files defines (name ∷ map (name_at files) reading)) met file number name) (find_place (has_name name) files k found)
    ∙ file_is_there defines (include_met (depth - 1) files defines (name ∷ map (name_at files) reading)) met file number name files k within
    ∙ ap (λ (n : Text). file_at_met defines (include_met (depth - 1) files defines (n ∷ map (name_at files) reading)) (one_file met) (slice_get files k)) (sym (name_found files name k found within))
    ∙ ap (λ (ks : List ℕ). file_at_met defines (includes_at (depth - 1) files defines ks) (one_file met) (slice_get files k)) (sym e)

-- ---- the file `Registry`

pub no_registry : (files : List SourceFile) (defines : Defines) → position (has_name main_file) files ≡ None → registry_lines files defines ≡ stop nothing_met main_file 0 MissingFile
unfolding registry_lines
no_registry files defines none = ap (main_met files defines) (find_none (has_name main_file) files none)

main_is_there : (files : List SourceFile) (defines : Defines) (k : ℕ) → k < length files
    → main_met files defines (slice_get files k) ≡ file_at_met defines (include_met most_files files defines (main_file ∷ [])) nothing_met (slice_get files k)
main_is_there files defines k lt =
    let here : slice_get files k ≡ Some (get_or files k nameless) = slice_get-get_or files k nameless lt in
    rw here refl

pub registry_read : (files : List SourceFile) (defines : Defines) (k : ℕ) → position (has_name main_file) files ≡ Some k → k < length files
    → registry_lines files defines ≡ file_at_met defines (includes_at most_files files defines (k ∷ [])) nothing_met (slice_get files k)
unfolding registry_lines
registry_read files defines k found lt =
    ap (main_met files defines) (find_place (has_name main_file) files k found)
    ∙ main_is_there files defines k lt
    ∙ ap (λ (n : Text). file_at_met defines (include_met most_files files defines (n ∷ [])) nothing_met (slice_get files k)) (sym (name_found files main_file k found lt))
