-- The Registry of a store, one wanted file after another.
use Rattle.std.proofs.Common.{◌≡◌, ◌∙◌, sym, ap, refl, subst, ℕ, suc, Bool, true, false, if◌then◌else◌, List, [], ◌∷◌, ◌++◌, Option, Some, None, Result, Ok, Err, IsTrue, Contains, arith}
use Rattle.std.specs.Option.{option_map, option_and_then}
use Rattle.std.proofs.lemmas.List.Elements.{Contains-append_right}
use Rattle.wf_model.specs.declared.registry.SourceFile.{SourceFile}
use Rattle.wf_model.specs.declared.registry.Registry.{Registry}
use Rattle.wf_model.specs.declared.registry.RegistryFault.{RegistryFault}
use Rattle.wf_model.specs.Reading.{◌>>=◌, Fails, told_as}
use Rattle.wf_model.specs.Letters.{Text, is_store_name}
use Rattle.wf_model.specs.KeptLines.{Defines, main_file, most_files}
use Rattle.wf_model.specs.Registry.{registry_of}
use Rattle.wf_model.specs.Files.{Files}
use Rattle.wf_model.specs.Refusals.{Refusal, registry_refusal}
use Rattle.wf_model.specs.FilesRead.{source, wanted, wanted_file, with_wanted, after_wanted, or_wanted, main_source, registry_with, registry_read}
use Rattle.wf_setup.specs.declared.error.SetupError.{SetupError}
use Rattle.wf_setup.specs.declared.error.SetupError.TheVariants as setup
use Rattle.wf_setup.specs.declared.registry_files.Step.{Step}
use Rattle.wf_setup.specs.declared.registry_files.Step.TheVariants.{Read, Wants}
use Rattle.wf_setup.specs.Errors.{Tells, refusal_of}
use Rattle.wf_setup.specs.Asked.{IsWanted, source_named, wanted_source, names_behind, names_wanted, names_after, includes_asked, registry_names}
use Rattle.wf_setup.specs.Steps.{step_with, step_after, step_of}

-- an error that tells a refusal is that of a reading that is refused so
pub Fails-tells : {Y : Type 0} (e : SetupError) (x : Refusal) (read : Result Y Refusal) → read ≡ Err x → Tells e x → Fails (refusal_of e) read
Fails-tells (setup.Refused r) x read is tells = is ∙ ap (λ (y : Refusal). Err y) (sym tells)
Fails-tells (setup.Store name) x read is tells = absurd tells
Fails-tells setup.Memory x read is tells = tt

-- ---- the files alone

pub judged_ok : (m : Files) (defines : Defines) (have : List SourceFile) (r : Registry) → registry_of have defines ≡ Ok r
    → told_as registry_refusal (registry_with 0 m defines have) ≡ Ok r
unfolding registry_with
judged_ok m defines have r e = ap (λ (x : Result Registry RegistryFault). told_as registry_refusal x) e

pub judged_err : (m : Files) (defines : Defines) (have : List SourceFile) (f : RegistryFault) → registry_of have defines ≡ Err f
    → told_as registry_refusal (registry_with 0 m defines have) ≡ Err (registry_refusal f)
unfolding registry_with
judged_err m defines have f e = ap (λ (x : Result Registry RegistryFault). told_as registry_refusal x) e

-- ---- a step

pub step_read : (m : Files) (defines : Defines) (have : List SourceFile) (r : Registry) → registry_of have defines ≡ Ok r → step_of m defines have ≡ Ok (Read r)
unfolding step_of
step_read m defines have r e = ap (step_after m) e

pub step_wants : (m : Files) (defines : Defines) (have : List SourceFile) (f : RegistryFault) (s : SourceFile)
    → registry_of have defines ≡ Err f → Some s ≡ wanted_source m f → step_of m defines have ≡ Ok (Wants s)
unfolding step_of
step_wants m defines have f s e w = ap (step_after m) e ∙ ap (step_with f) (sym w)

pub step_refused : (m : Files) (defines : Defines) (have : List SourceFile) (f : RegistryFault)
    → registry_of have defines ≡ Err f → None ≡ wanted_source m f → step_of m defines have ≡ Err (registry_refusal f)
unfolding step_of
step_refused m defines have f e w = ap (step_after m) e ∙ ap (step_with f) (sym w)

-- ---- what is read after a step

-- the Registry, or that of one file more
abbrev pub told_next : ℕ → Files → Defines → List SourceFile → Step → Result Registry Refusal
told_next n m defines have (Read r) = Ok r
told_next n m defines have (Wants s) = told_as registry_refusal (registry_with n m defines (have ++ (s ∷ [])))

with_found : (again : List SourceFile → Result Registry RegistryFault) (have : List SourceFile) (f : RegistryFault) (name : Text) (text : Option (List ℕ)) (n : ℕ) (m : Files) (defines : Defines)
    → ((files : List SourceFile) → again files ≡ registry_with n m defines files)
    → told_as registry_refusal (with_wanted again have f name text) ≡ (step_with f (option_map (source name) text) >>= told_next n m defines have)
with_found again have f name None n m defines same = refl
with_found again have f name (Some text) n m defines same = ap (λ (x : Result Registry RegistryFault). told_as registry_refusal x) (same (have ++ (source name text ∷ [])))

after_found : (again : List SourceFile → Result Registry RegistryFault) (have : List SourceFile) (f : RegistryFault) (name : Option Text) (n : ℕ) (m : Files) (defines : Defines)
    → ((files : List SourceFile) → again files ≡ registry_with n m defines files)
    → told_as registry_refusal (after_wanted again m have f name) ≡ (step_with f (option_and_then (source_named m) name) >>= told_next n m defines have)
after_found again have f None n m defines same = refl
after_found again have f (Some name) n m defines same = with_found again have f name (wanted_file m name) n m defines same

or_found : (have : List SourceFile) (r : Result Registry RegistryFault) (n : ℕ) (m : Files) (defines : Defines)
    → told_as registry_refusal (or_wanted (registry_with n m defines) m have r) ≡ (step_after m r >>= told_next n m defines have)
or_found have (Ok r) n m defines = refl
or_found have (Err f) n m defines = after_found (registry_with n m defines) have f (wanted f.kind) n m defines (λ files. refl)

pub told_step : (n : ℕ) (m : Files) (defines : Defines) (have : List SourceFile)
    → told_as registry_refusal (registry_with (suc n) m defines have) ≡ (step_of m defines have >>= told_next n m defines have)
unfolding registry_with step_of
told_step n m defines have = or_found have (registry_of have defines) n m defines

-- ---- the names that are asked for

-- one name more is asked for first
behind_first : (name q : Text) (names : List Text) → Contains names q → Contains (name ∷ names) q
behind_first name q names there = Contains-append_right (name ∷ []) names q there

test_go : (again : List SourceFile → List Text) (have : List SourceFile) (f : RegistryFault) (name : Text) (test : Bool) (text : Option (List ℕ)) (s : SourceFile) (q : Text)
    → (let step : Result Step Refusal = step_with f (option_map (source name) (if test then text else None)) in step) ≡ Ok (Wants s) → Contains (again (have ++ (s ∷ []))) q
    → Contains (if test then name ∷ names_behind again have (option_map (source name) (if test then text else None)) else []) q
test_go again have f name false text s q e there = absurd (cc e)
test_go again have f name true None s q e there = absurd (cc e)
test_go again have f name true (Some text) s q e there =
    let same : s ≡ source name text = cc in
    behind_first name q (again (have ++ (source name text ∷ []))) (subst (λ (x : SourceFile). Contains (again (have ++ (x ∷ []))) q) same there)

wanted_go : (again : List SourceFile → List Text) (m : Files) (have : List SourceFile) (f : RegistryFault) (w : Option Text) (s : SourceFile) (q : Text)
    → step_with f (option_and_then (source_named m) w) ≡ Ok (Wants s) → Contains (again (have ++ (s ∷ []))) q → Contains (names_wanted again m have w) q
wanted_go again m have f None s q e there = absurd (cc e)
wanted_go again m have f (Some name) s q e there = test_go again have f name (is_store_name name) (m name) s q e there

after_go : (again : List SourceFile → List Text) (m : Files) (have : List SourceFile) (r : Result Registry RegistryFault) (s : SourceFile) (q : Text)
    → step_after m r ≡ Ok (Wants s) → Contains (again (have ++ (s ∷ []))) q → Contains (names_after again m have r) q
after_go again m have (Ok r) s q e there = absurd (cc e)
after_go again m have (Err f) s q e there = wanted_go again m have f (wanted f.kind) s q e there

-- a wanted file was read: what is asked for after it is asked for
pub names_more : (n : ℕ) (m : Files) (defines : Defines) (have : List SourceFile) (s : SourceFile) (q : Text)
    → step_of m defines have ≡ Ok (Wants s) → Contains (includes_asked n m defines (have ++ (s ∷ []))) q → Contains (includes_asked (suc n) m defines have) q
unfolding includes_asked step_of
names_more n m defines have s q e there = after_go (includes_asked n m defines) m have (registry_of have defines) s q e there

-- the wanted file is asked for
pub names_first : (n : ℕ) (m : Files) (defines : Defines) (have : List SourceFile) (name : Text) → IsWanted have defines name → Contains (includes_asked (suc n) m defines have) name
unfolding includes_asked
names_first n m defines have name w =
    let again = includes_asked n m defines in
    let names : Result Registry RegistryFault → List Text = names_after again m have in
    let is : names (registry_of have defines) ≡ name ∷ names_behind again have (source_named m name) =
    ap names w.refused ∙ ap (names_wanted again m have) w.wants ∙ taken again name (is_store_name name) (source_named m name) w.takes in
    subst (λ (ns : List Text). Contains ns name) (sym is) (0, omega arith, refl)
  where
    taken : (again : List SourceFile → List Text) (name : Text) (test : Bool) (o : Option SourceFile) → IsTrue test → (if test then name ∷ names_behind again have o else []) ≡ name ∷ names_behind again have o
    taken again name true o is = refl
    taken again name false o is = absurd (cc is)

-- ---- the loop: with these files, after which at most n more are read, the Registry is that of the first ones

pub record Left (n : ℕ) (m : Files) (defines : Defines) (first have : List SourceFile) : Type 0 where
  pub registry : told_as registry_refusal (registry_with n m defines have) ≡ told_as registry_refusal (registry_with most_files m defines first)
  pub names : (q : Text) → Contains (includes_asked n m defines have) q → Contains (includes_asked most_files m defines first) q

pub left_first : (m : Files) (defines : Defines) (first : List SourceFile) → Left 64 m defines first first
left_first m defines first = record { registry = refl; names = λ q there. there }

-- one file more
pub left_more : (n k : ℕ) (m : Files) (defines : Defines) (first have : List SourceFile) (s : SourceFile)
    → n ≡ suc k → step_of m defines have ≡ Ok (Wants s) → Left n m defines first have → Left k m defines first (have ++ (s ∷ []))
left_more n k m defines first have s is e left =
    let at : Left (suc k) m defines first have = subst (λ i. Left i m defines first have) is left in
    record {
      registry = sym (told_step k m defines have ∙ ap (λ (x : Result Step Refusal). x >>= told_next k m defines have) e) ∙ at.registry;
      names = λ q there. at.names q (names_more k m defines have s q e there);
    }

-- the Registry is read
pub left_read : (n k : ℕ) (m : Files) (defines : Defines) (first have : List SourceFile) (r : Registry)
    → n ≡ suc k → step_of m defines have ≡ Ok (Read r) → Left n m defines first have → told_as registry_refusal (registry_with most_files m defines first) ≡ Ok r
left_read n k m defines first have r is e left =
    let at : Left (suc k) m defines first have = subst (λ i. Left i m defines first have) is left in
    sym at.registry ∙ told_step k m defines have ∙ ap (λ (x : Result Step Refusal). x >>= told_next k m defines have) e

-- it is refused
pub left_fails : (n k : ℕ) (m : Files) (defines : Defines) (first have : List SourceFile) (x : Option Refusal)
    → n ≡ suc k → Fails x (step_of m defines have) → Left n m defines first have → Fails x (told_as registry_refusal (registry_with most_files m defines first))
left_fails n k m defines first have None is e left = tt
left_fails n k m defines first have (Some x) is e left =
    let at : Left (suc k) m defines first have = subst (λ i. Left i m defines first have) is left in
    sym at.registry ∙ told_step k m defines have ∙ ap (λ (y : Result Step Refusal). y >>= told_next k m defines have) e

-- the file that is wanted is asked for
pub left_asks : (n k : ℕ) (m : Files) (defines : Defines) (first have : List SourceFile) (name : Text)
    → n ≡ suc k → IsWanted have defines name → Left n m defines first have → Contains (includes_asked most_files m defines first) name
left_asks n k m defines first have name is w left =
    let at : Left (suc k) m defines first have = subst (λ i. Left i m defines first have) is left in
    at.names name (names_first k m defines have name w)

-- ---- the file `Registry`, and the Registry of a store

pub main_none : (text : Option (List ℕ)) → None ≡ option_map (source main_file) text → [] ≡ main_source text
main_none None e = refl
main_none (Some text) e = absurd (cc e)

pub main_some : (text : Option (List ℕ)) (s : SourceFile) → Some s ≡ option_map (source main_file) text → s ∷ [] ≡ main_source text
main_some None s e = absurd (cc e)
main_some (Some text) s e = let same : s ≡ source main_file text = cc in ap (λ (f : SourceFile). f ∷ []) same

pub registry_is : (m : Files) (defines : Defines) (have : List SourceFile) → have ≡ main_source (m main_file)
    → told_as registry_refusal (registry_with most_files m defines have) ≡ registry_read m defines
unfolding registry_read
registry_is m defines have is = ap (λ (files : List SourceFile). told_as registry_refusal (registry_with most_files m defines files)) is

pub main_asked : (m : Files) (defines : Defines) (q : Text) → q ≡ main_file → Contains (registry_names m defines) q
unfolding registry_names
main_asked m defines q is = (0, omega arith, sym is)

pub include_asked : (m : Files) (defines : Defines) (have : List SourceFile) (q : Text) → have ≡ main_source (m main_file) → Contains (includes_asked most_files m defines have) q → Contains (registry_names m defines) q
unfolding registry_names
include_asked m defines have q is there =
    behind_first main_file q (includes_asked most_files m defines (main_source (m main_file))) (subst (λ (files : List SourceFile). Contains (includes_asked most_files m defines files) q) is there)
