-- The Registry, from its lines judged and its names looked up.
use Rattle.std.proofs.Common.{◌≡◌, ◌∙◌, sym, ap, ap₂, refl, ℕ, zero, suc, ◌<◌, Bool, true, false, cond, List, [], ◌∷◌, ◌++◌, map, length, get_or, Option, Some, None, Result, Ok, Err, arith, subst}
use Rattle.std.specs.Prelude.{◌||◌, not, find, filter_map}
use Rattle.std.specs.List.{list_any}
use Rattle.std.specs.Option.{option_or, option_map, option_to_list}
use Rattle.wf_model.specs.declared.registry.SourceFile.{SourceFile}
use Rattle.wf_model.specs.declared.registry.Entry.{Entry}
use Rattle.wf_model.specs.declared.registry.Registry.{Registry}
use Rattle.wf_model.specs.declared.registry.RegistryFault.{RegistryFault}
use Rattle.wf_model.specs.declared.registry.RegistryKind.TheVariants.{UnknownName}
use Rattle.wf_model.specs.Reading.{Fails, unless_fault}
use Rattle.wf_model.specs.KeptLines.{Kept, Defines, registry_lines}
use Rattle.wf_model.specs.Entries.{entry_of, entries_of}
use Rattle.wf_model.specs.Registry.{fault_at, has_unknown, met_of, names_known, refusal, registry_of, stop_of, unknown_name}
use Rattle.std.proofs.lemmas.List.{length-map}
use Rattle.std.proofs.lemmas.Grind.{common_steps}
use Rattle.wf_registry_lines.specs.Kept.{kept_in}
use Rattle.wf_registry_lines.specs.declared.KeptLine.{KeptLine}
use Rattle.wf_registry.specs.LineEntries.{lines_entries}
use Rattle.wf_registry_columns.specs.Axes.{HasAxesOf}
use Rattle.wf_registry.specs.Judged.{lines_judged}
use Rattle.wf_registry.specs.Unknown.{AreKnownBelow, IsFirstUnknown}
use Rattle.wf_registry.proofs.JudgedLemmas.{AreJudged, judged_ok, judged_err}
use Rattle.wf_registry.proofs.SameLetters.{broken_same}

-- what a Registry is, by its lines and why their reading ends
pub registry_is : (files : List SourceFile) (defines : Defines) (ls : List Kept) (end : Option RegistryFault)
    → ls ≡ (met_of (registry_lines files defines)).kept → end ≡ stop_of (registry_lines files defines)
    → registry_of files defines ≡ unless_fault (refusal ls end) (record { entries = entries_of ls })
unfolding registry_of
registry_is files defines ls end lines ends =
    sym (ap₂ (λ (xs : List Kept) (o : Option RegistryFault). unless_fault (refusal xs o) (record { entries = entries_of xs })) lines ends)

-- a line is broken
pub broken : (all : List Entry) (ls : List Kept) (end : Option RegistryFault) (f : RegistryFault) → HasAxesOf all (entries_of ls) → lines_judged all [] ls ≡ Err f → refusal ls end ≡ Some f
broken all ls end f axes judged =
    ap (λ (o : Option RegistryFault). option_or o (option_or end (unknown_name (entries_of ls) ls))) (sym (broken_same all (entries_of ls) axes [] ls) ∙ judged_err all [] ls f judged)

none_broken : (all : List Entry) (ls : List Kept) (end : Option RegistryFault) (es : List Entry) → HasAxesOf all (entries_of ls) → AreJudged all [] ls es
    → refusal ls end ≡ option_or end (unknown_name (entries_of ls) ls)
none_broken all ls end es axes j =
    ap (λ (o : Option RegistryFault). option_or o (option_or end (unknown_name (entries_of ls) ls))) (sym (broken_same all (entries_of ls) axes [] ls) ∙ j.sound)

-- the reading ended by a fault
pub stopped : (all : List Entry) (ls : List Kept) (f : RegistryFault) (es : List Entry) → HasAxesOf all (entries_of ls) → lines_judged all [] ls ≡ Ok es → refusal ls (Some f) ≡ Some f
stopped all ls f es axes judged = none_broken all ls (Some f) es axes (judged_ok all [] ls es judged)

-- ---- names that nothing declares

unknown-head : (all : List Entry) (l : Kept) (e : Entry) (t : Bool) → entry_of l ≡ Some e → names_known all e ≡ t → has_unknown all l ≡ not t
unknown-head all l e t entry known = ap (λ (o : Option Entry). list_any (λ x. not (names_known all x)) (option_to_list o)) entry ∙ ap (λ b. not b || false) known ∙ same t
  where
    same : (b : Bool) → (not b || false) ≡ not b
    same true = refl
    same false = refl

find-passed : (p : Kept → Bool) (l : Kept) (ls : List Kept) → p l ≡ false → find p (l ∷ ls) ≡ find p ls
find-passed p l ls e = ap (λ (b : Bool). cond b (Some l) (find p ls)) e

find-here : (p : Kept → Bool) (l : Kept) (ls : List Kept) → p l ≡ true → find p (l ∷ ls) ≡ Some l
find-here p l ls e = ap (λ (b : Bool). cond b (Some l) (find p ls)) e

heads : {A : Type 0} (x y : A) (xs ys : List A) → x ∷ xs ≡ y ∷ ys → (x ≡ y) × (xs ≡ ys)
heads x y xs ys e = (cc, cc)

-- what holds of each entry holds of each but the first
tail_known : (all : List Entry) (e : Entry) (es : List Entry) (n : ℕ) → AreKnownBelow all (e ∷ es) (suc n) → AreKnownBelow all es n
tail_known all e es n known k below = known (suc k) (omega arith)

pub find_none : (all : List Entry) (ls : List Kept) (es : List Entry) → map entry_of ls ≡ map (λ e. Some e) es → AreKnownBelow all es (length es) → find (has_unknown all) ls ≡ None
find_none all [] [] same known = refl
find_none all [] (e ∷ es) same known = refl
find_none all (l ∷ ls) [] same known = cc
find_none all (l ∷ ls) (e ∷ es) same known =
    let h = heads (entry_of l) (Some e) (map entry_of ls) (map (λ x. Some x) es) same in
    find-passed (has_unknown all) l ls (unknown-head all l e true h.0 (known 0 (omega arith)))
    ∙ find_none all ls es h.1 (tail_known all e es (length es) known)

pub find_first : (all : List Entry) (ls : List Kept) (es : List Entry) (at : ℕ) (d : Kept) → map entry_of ls ≡ map (λ e. Some e) es → IsFirstUnknown all es at → find (has_unknown all) ls ≡ Some (get_or ls at d)
find_first all [] [] at d same first = let w : at < 0 = first.within in absurd (omega arith)
find_first all [] (e ∷ es) at d same first = cc
find_first all (l ∷ ls) [] at d same first = cc
find_first all (l ∷ ls) (e ∷ es) zero d same first =
    let h = heads (entry_of l) (Some e) (map entry_of ls) (map (λ x. Some x) es) same in
    find-here (has_unknown all) l ls (unknown-head all l e false h.0 first.unknown)
find_first all (l ∷ ls) (e ∷ es) (suc at) d same first =
    let h = heads (entry_of l) (Some e) (map entry_of ls) (map (λ x. Some x) es) same in
    let w : suc at < suc (length es) = first.within in
    find-passed (has_unknown all) l ls (unknown-head all l e true h.0 (first.before 0 (omega arith)))
    ∙ find_first all ls es at d h.1 (record { within = omega arith; before = tail_known all e es at first.before; unknown = first.unknown })

-- ---- the answer

get-map : {A B : Type 0} (f : A → B) (xs : List A) (i : ℕ) (d : A) → get_or (map f xs) i (f d) ≡ f (get_or xs i d)
get-map f [] i d = refl
get-map f (x ∷ xs) zero d = refl
get-map f (x ∷ xs) (suc i) d = get-map f xs i d

length-each : (ls : List Kept) (es : List Entry) → map entry_of ls ≡ map (λ e. Some e) es → length es ≡ length ls
length-each [] [] same = refl
length-each [] (e ∷ es) same = cc
length-each (l ∷ ls) [] same = cc
length-each (l ∷ ls) (e ∷ es) same = ap suc (length-each ls es (heads (entry_of l) (Some e) (map entry_of ls) (map (λ x. Some x) es) same).1)

-- the entries behind none are the entries
same_entries : (all : List Entry) (ls : List Kept) (es : List Entry) → AreJudged all [] ls es → entries_of ls ≡ es
same_entries all ls es j = j.entries ∙ sym j.behind

each_same : (all : List Entry) (ls : List Kept) (es : List Entry) → AreJudged all [] ls es → map entry_of ls ≡ map (λ e. Some e) es
each_same all ls es j = j.each ∙ ap (map (λ (e : Entry). Some e)) (sym j.behind)

-- as many entries as lines
pub as_many : (all : List Entry) (files : List SourceFile) (lines : List KeptLine) (es : List Entry) → lines_judged all [] (map (kept_in files) lines) ≡ Ok es → length es ≡ length lines
as_many all files lines es judged = length-each (map (kept_in files) lines) es (each_same all (map (kept_in files) lines) es (judged_ok all [] (map (kept_in files) lines) es judged)) ∙ length-map lines (kept_in files)

pub unnamed : (all : List Entry) (files : List SourceFile) (lines : List KeptLine) (es : List Entry) (at : ℕ) (l : KeptLine) → HasAxesOf all (entries_of (map (kept_in files) lines))
    → lines_judged all [] (map (kept_in files) lines) ≡ Ok es → IsFirstUnknown es es at
    → refusal (map (kept_in files) lines) None ≡ Some (fault_at (kept_in files (get_or lines at l)) UnknownName)
unnamed all files lines es at l axes judged first =
    let ls = map (kept_in files) lines in
    let j = judged_ok all [] ls es judged in
    none_broken all ls None es axes j
    ∙ ap (λ (o : Option Kept). option_map (λ x. fault_at x UnknownName) o)
    (ap (λ xs. find (has_unknown xs) ls) (same_entries all ls es j) ∙ find_first es ls es at (kept_in files l) (each_same all ls es j) first
    ∙ ap (λ (x : Kept). Some x) (get-map (kept_in files) lines at l))

pub accepted : (all : List Entry) (files : List SourceFile) (lines : List KeptLine) (es : List Entry) → HasAxesOf all (entries_of (map (kept_in files) lines))
    → lines_judged all [] (map (kept_in files) lines) ≡ Ok es → AreKnownBelow es es (length es) → refusal (map (kept_in files) lines) None ≡ None
accepted all files lines es axes judged known =
    let ls = map (kept_in files) lines in
    let j = judged_ok all [] ls es judged in
    none_broken all ls None es axes j
    ∙ ap (λ (o : Option Kept). option_map (λ x. fault_at x UnknownName) o)
    (ap (λ xs. find (has_unknown xs) ls) (same_entries all ls es j) ∙ find_none es ls es (each_same all ls es j) known)

pub entries_are : (all : List Entry) (ls : List Kept) (es : List Entry) → lines_judged all [] ls ≡ Ok es → entries_of ls ≡ es
entries_are all ls es judged = same_entries all ls es (judged_ok all [] ls es judged)

filter_map-cons : {A C : Type 0} (g : A → Option C) (x : A) (xs : List A) → filter_map g (x ∷ xs) ≡ option_to_list (g x) ++ filter_map g xs
filter_map-cons g x xs = grind (arith, common_steps)

filter_map-map : {A B C : Type 0} (g : B → Option C) (f : A → B) (xs : List A) → filter_map g (map f xs) ≡ filter_map (λ x. g (f x)) xs
filter_map-map g f [] = refl
filter_map-map g f (x ∷ xs) = filter_map-cons g (f x) (map f xs) ∙ ap (λ r. option_to_list (g (f x)) ++ r) (filter_map-map g f xs) ∙ sym (filter_map-cons (λ y. g (f y)) x xs)

-- the letters that were gathered are those of the entries
pub gathered : (all : List Entry) (files : List SourceFile) (lines : List KeptLine) → HasAxesOf all (lines_entries files lines) → HasAxesOf all (entries_of (map (kept_in files) lines))
unfolding entries_of
gathered all files lines h = subst (HasAxesOf all) (sym (mapped lines)) h
  where
    mapped : (xs : List KeptLine) → filter_map entry_of (map (kept_in files) xs) ≡ lines_entries files xs
    mapped xs = filter_map-map entry_of (kept_in files) xs

-- ---- the answer, by what was read

pub record IsRead (files : List SourceFile) (defines : Defines) (lines : List KeptLine) (end : Option RegistryFault) (all : List Entry) : Type 0 where
  pub lines_are : map (kept_in files) lines ≡ (met_of (registry_lines files defines)).kept
  pub end_is : end ≡ stop_of (registry_lines files defines)
  pub letters : HasAxesOf all (lines_entries files lines)

module _ (files : List SourceFile) (defines : Defines) (lines : List KeptLine) (end : Option RegistryFault) (all : List Entry) (r : IsRead files defines lines end all) where
  refused_is : (f : RegistryFault) → refusal (map (kept_in files) lines) end ≡ Some f → registry_of files defines ≡ Err f
  refused_is f is = registry_is files defines (map (kept_in files) lines) end r.lines_are r.end_is
      ∙ ap (λ (o : Option RegistryFault). unless_fault o (record { entries = entries_of (map (kept_in files) lines) })) is

  pub registry_broken : (told : Option RegistryFault) → Fails told (lines_judged all [] (map (kept_in files) lines)) → Fails told (registry_of files defines)
  registry_broken None fails = tt
  registry_broken (Some f) fails = refused_is f (broken all (map (kept_in files) lines) end f (gathered all files lines r.letters) fails)

  pub registry_stopped : (f : RegistryFault) (es : List Entry) → end ≡ Some f → lines_judged all [] (map (kept_in files) lines) ≡ Ok es → registry_of files defines ≡ Err f
  registry_stopped f es is judged = refused_is f (ap (refusal (map (kept_in files) lines)) is ∙ stopped all (map (kept_in files) lines) f es (gathered all files lines r.letters) judged)

  pub registry_unnamed : (es : List Entry) (at : ℕ) (l : KeptLine) (f : RegistryFault) → end ≡ None → lines_judged all [] (map (kept_in files) lines) ≡ Ok es → IsFirstUnknown es es at
      → f ≡ fault_at (kept_in files (get_or lines at l)) UnknownName → registry_of files defines ≡ Err f
  registry_unnamed es at l f is judged first told =
      refused_is f (ap (refusal (map (kept_in files) lines)) is ∙ unnamed all files lines es at l (gathered all files lines r.letters) judged first ∙ ap (λ (x : RegistryFault). Some x) (sym told))

  pub registry_accepted : (es : List Entry) → end ≡ None → lines_judged all [] (map (kept_in files) lines) ≡ Ok es → AreKnownBelow es es (length es)
      → registry_of files defines ≡ Ok (record { entries = es })
  registry_accepted es is judged known =
      registry_is files defines (map (kept_in files) lines) end r.lines_are r.end_is
      ∙ ap₂ (λ (o : Option RegistryFault) (xs : List Entry). let q : Result Registry RegistryFault = unless_fault o (record { entries = xs }) in q)
      (ap (refusal (map (kept_in files) lines)) is ∙ accepted all files lines es (gathered all files lines r.letters) judged known)
      (entries_are all (map (kept_in files) lines) es judged)
