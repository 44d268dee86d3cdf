-- A Registry that was read is sound.
use Rattle.std.proofs.Common.{eqb, cond, ◌≡◌, Bool, true, false, List, [], ◌∷◌, ◌++◌, Option, Some, None, Ok, refl, sym, ap, ◌∙◌, subst, append_assoc}
use Rattle.std.specs.Str.{bytes_eq}
use Rattle.std.specs.Prelude.{◌&&◌, if◌then◌else◌, ◌||◌, not, flat_map, find, filter_map, IsTrue, codes, cond}
use Rattle.std.specs.List.{list_any, AllByRecursion, cons_option}
use Rattle.std.specs.Option.{option_or, option_map, option_to_list}
use Rattle.std.proofs.lemmas.Bool.{false≢true, or_from, eqb-true}
use Rattle.std.proofs.lemmas.List.{append-nil}
use Rattle.std.proofs.lemmas.List.Concat.{flat_map-cons}
use Rattle.std.proofs.lemmas.List.Elements.{All-from_recursion}
use Rattle.std.proofs.lemmas.Grind.{flat_map-append}
use Rattle.wf_model.specs.declared.registry.Registry.{Registry}
use Rattle.wf_model.specs.declared.registry.RegistryFault.{RegistryFault}
use Rattle.wf_model.specs.declared.registry.RegistryKind.TheVariants.{UnknownName}
use Rattle.wf_model.specs.declared.registry.Entry.{Entry}
use Rattle.wf_model.specs.Reading.{unless_fault}
use Rattle.wf_model.specs.Letters.{is_among, Text, share}
use Rattle.wf_model.specs.KeptLines.{Kept, registry_lines}
use Rattle.wf_model.specs.Entries.{Kind, same_kind, number_of_kind, entry_name, declares, entry_of, entries_of, entry_symbol, entry_levels, entry_variables, entry_datasets}
use Rattle.wf_model.specs.Judging.{line_fault, taken_datasets}
use Rattle.wf_model.specs.Registry.{fault_at, broken_line, names_known, has_unknown, unknown_name, met_of, stop_of, refusal, registry_of}
use Rattle.wf_registry_laws.specs.EntryRules.{IsSoundEntry}
use Rattle.wf_registry_laws.specs.RegistryLaws.{AreDistinct, names_of_kind, taken_by, IsSoundRegistry, RegistriesAreSound}
use Rattle.wf_registry_laws.proofs.Taken.{none_taken}
use Rattle.wf_registry_laws.proofs.KindNames.{among_is}
use Rattle.wf_registry_laws.proofs.Fresh.{IsFresh, IsJudged, EachJudged, line_is_judged}
use Rattle.wf_registry_laws.proofs.Distinct.{distinct_append, share_right, none_distinct, one_distinct, two_distinct, own_name, own_taken, own_levels, own_variables, own_datasets}

-- ---- each entry beside those before it

abbrev pub EachAfter : (List Entry → Entry → Type 0) → List Entry → List Entry → Type 0
EachAfter P before [] = Unit {0}
EachAfter P before (e ∷ es) = P before e × EachAfter P (before ++ e ∷ []) es

after_weaker : (P Q : List Entry → Entry → Type 0) → ((b : List Entry) (e : Entry) → P b e → Q b e) → (before es : List Entry) → EachAfter P before es → EachAfter Q before es
after_weaker P Q weaker before [] h = tt
after_weaker P Q weaker before (e ∷ es) h = (weaker before e h.0, after_weaker P Q weaker (before ++ e ∷ []) es h.1)

-- ---- lines without a fault

no_option : {A B : Type 0} (f : A → B) (o : Option A) → option_map f o ≡ None → o ≡ None
no_option f None e = refl
no_option f (Some a) e = cc

pub none_of_two : {F : Type 0} (a b : Option F) → option_or a b ≡ None → (a ≡ None) × (b ≡ None)
none_of_two None b e = (refl, e)
none_of_two (Some f) b e = cc

one_more : (all before : List Entry) (found : Option Entry) (es : List Entry) → EachJudged all before found → EachAfter (IsJudged all) (before ++ option_to_list found) es → EachAfter (IsJudged all) before (cons_option found es)
one_more all before None es h rest = subst (λ b. EachAfter (IsJudged all) b es) (append-nil before) rest
one_more all before (Some e) es h rest = (h, rest)

lines_are_judged : (all before : List Entry) (ls : List Kept) → broken_line all before ls ≡ None → EachAfter (IsJudged all) before (filter_map entry_of ls)
lines_are_judged all before [] e = tt
lines_are_judged all before (l ∷ ls) e =
    let h = none_of_two (option_map (fault_at l) (line_fault all before l)) (broken_line all (before ++ option_to_list (entry_of l)) ls) e in
    one_more all before (entry_of l) (filter_map entry_of ls) (line_is_judged all before l (no_option (fault_at l) (line_fault all before l) h.0))
    (lines_are_judged all (before ++ option_to_list (entry_of l)) ls h.1)

-- ---- names that are known

none_found : {X : Type 0} (p : X → Bool) (x : X) (xs : List X) → find p (x ∷ xs) ≡ None → (p x ≡ false) × (find p xs ≡ None)
none_found p x xs e = by (p x) e
  where
    by : (b : Bool) → cond b (Some x) (find p xs) ≡ None → (b ≡ false) × (find p xs ≡ None)
    by true e = cc
    by false e = (refl, e)

not_unknown : (b : Bool) → (not b || false) ≡ false → b ≡ true
not_unknown true e = refl
not_unknown false e = absurd (false≢true (sym e))

known_more : (all : List Entry) (found : Option Entry) (es : List Entry) → list_any (λ e. not (names_known all e)) (option_to_list found) ≡ false
    → AllByRecursion (λ e. IsTrue (names_known all e)) es → AllByRecursion (λ e. IsTrue (names_known all e)) (cons_option found es)
known_more all None es e rest = rest
known_more all (Some x) es e rest = (not_unknown (names_known all x) e, rest)

lines_are_known : (all : List Entry) (ls : List Kept) → find (has_unknown all) ls ≡ None → AllByRecursion (λ e. IsTrue (names_known all e)) (filter_map entry_of ls)
lines_are_known all [] e = tt
lines_are_known all (l ∷ ls) e =
    let h = none_found (has_unknown all) l ls e in
    known_more all (entry_of l) (filter_map entry_of ls) h.0 (lines_are_known all ls h.1)

-- ---- rules

rules_are_kept : (all before es : List Entry) → EachAfter (IsJudged all) before es → AllByRecursion (λ e. IsTrue (names_known all e)) es → AllByRecursion (IsSoundEntry all) es
rules_are_kept all before [] h known = tt
rules_are_kept all before (e ∷ es) h known = (h.0.sound known.0, rules_are_kept all (before ++ e ∷ []) es h.1 known.1)

-- ---- names

distinct_after : (names : Entry → List Text) (ahead : List Text) (before es : List Entry) → ((e : Entry) → AreDistinct (names e))
    → EachAfter (λ b e. share (names e) (ahead ++ flat_map names b) ≡ false) before es → AreDistinct (ahead ++ flat_map names before) → AreDistinct (ahead ++ flat_map names (before ++ es))
distinct_after names ahead before [] own h so_far = subst (λ b. AreDistinct (ahead ++ flat_map names b)) (sym (append-nil before)) so_far
distinct_after names ahead before (e ∷ es) own h so_far =
    let one : flat_map names (e ∷ []) ≡ names e = flat_map-cons names e [] ∙ append-nil (names e) in
    let joined : (ahead ++ flat_map names before) ++ names e ≡ ahead ++ flat_map names (before ++ e ∷ []) =
    append_assoc ahead (flat_map names before) (names e) ∙ ap (λ ns. ahead ++ (flat_map names before ++ ns)) (sym one) ∙ ap (λ ns. ahead ++ ns) (sym (flat_map-append names before (e ∷ []))) in
    let next : AreDistinct (ahead ++ flat_map names (before ++ e ∷ [])) = subst (λ ns. AreDistinct ns) joined (distinct_append (ahead ++ flat_map names before) (names e) so_far (own e) h.0) in
    subst (λ b. AreDistinct (ahead ++ flat_map names b)) (append_assoc before (e ∷ []) es) (distinct_after names ahead (before ++ e ∷ []) es own h.1 next)

-- a name that no entry of its kind has is new among those of each kind
name_is_new : (kind : Kind) (before : List Entry) (e : Entry) → declares (entry_name e).0 (entry_name e).1 before ≡ false → share (names_of_kind kind e) (flat_map (names_of_kind kind) before) ≡ false
name_is_new kind before e new = by (same_kind kind (entry_name e).0) refl
  where
    same : same_kind kind (entry_name e).0 ≡ true → is_among (entry_name e).1 (flat_map (names_of_kind kind) before) ≡ false
    same is =
        among_is kind (entry_name e).1 before
        ∙ ap (λ n. list_any (λ x. eqb n (number_of_kind (entry_name x).0) && bytes_eq (entry_name e).1 (entry_name x).1) before) (eqb-true (number_of_kind kind) (number_of_kind (entry_name e).0) is)
        ∙ new

    by : (b : Bool) → same_kind kind (entry_name e).0 ≡ b → share (if b then (entry_name e).1 ∷ [] else []) (flat_map (names_of_kind kind) before) ≡ false
    by true is = or_from (is_among (entry_name e).1 (flat_map (names_of_kind kind) before)) false (same is) refl
    by false is = refl

-- ---- a Registry

entries_are_sound : (es : List Entry) → EachAfter (IsJudged es) [] es → AllByRecursion (λ e. IsTrue (names_known es e)) es → IsSoundRegistry es
entries_are_sound es judged known =
    let fresh : EachAfter IsFresh [] es = after_weaker (IsJudged es) IsFresh (λ b e j. j.fresh) [] es judged in
    record {
      rules = All-from_recursion (IsSoundEntry es) es (rules_are_kept es [] es judged known);
      known = All-from_recursion (λ e. IsTrue (names_known es e)) es known;
      names = λ kind. distinct_after (names_of_kind kind) [] [] es (own_name kind)
          (after_weaker IsFresh (λ b e. share (names_of_kind kind e) (flat_map (names_of_kind kind) b) ≡ false) (λ b e f. name_is_new kind b e f.name) [] es fresh) none_distinct;
      taken = distinct_after taken_by [] [] es own_taken
          (after_weaker IsFresh (λ b e. share (taken_by e) (flat_map taken_by b) ≡ false) (λ b e f. none_taken (taken_by e) b f.taken) [] es fresh) none_distinct;
      levels = distinct_after entry_levels [] [] es own_levels
          (after_weaker IsFresh (λ b e. share (entry_levels e) (flat_map entry_levels b) ≡ false) (λ b e f. share_right (entry_levels e) (flat_map entry_symbol b) (flat_map entry_levels b) f.levels) [] es fresh) none_distinct;
      variables = distinct_after entry_variables (codes "Times" ∷ []) [] es own_variables
          (after_weaker IsFresh (λ b e. share (entry_variables e) (codes "Times" ∷ flat_map entry_variables b) ≡ false) (λ b e f. f.variables) [] es fresh) (one_distinct (codes "Times"));
      datasets = distinct_after entry_datasets taken_datasets [] es own_datasets
          (after_weaker IsFresh (λ b e. share (entry_datasets e) (taken_datasets ++ flat_map entry_datasets b) ≡ false) (λ b e f. f.datasets) [] es fresh) (two_distinct (codes "Time") (codes "DateStrLen") refl);
    }

pub ok_none : {A F : Type 0} (f : Option F) (a b : A) → unless_fault f a ≡ Ok b → (f ≡ None) × (a ≡ b)
ok_none None a b e = (refl, cc)
ok_none (Some f) a b e = cc

lines_are_sound : (ls : List Kept) (end : Option RegistryFault) → refusal ls end ≡ None → IsSoundRegistry (entries_of ls)
unfolding entries_of
lines_are_sound ls end e =
    let all = filter_map entry_of ls in
    let a = none_of_two (broken_line all [] ls) (option_or end (unknown_name all ls)) e in
    let b = none_of_two end (unknown_name all ls) a.1 in
    entries_are_sound all (lines_are_judged all [] ls a.0) (lines_are_known all ls (no_option (λ l. fault_at l UnknownName) (find (has_unknown all) ls) b.1))

pub registries_are_sound : RegistriesAreSound
unfolding registry_of
registries_are_sound files defines registry e =
    let read = registry_lines files defines in
    let h = ok_none (refusal (met_of read).kept (stop_of read)) (record { entries = entries_of (met_of read).kept }) registry e in
    subst (λ (r : Registry). IsSoundRegistry r.entries) h.1 (lines_are_sound (met_of read).kept (stop_of read) h.0)
