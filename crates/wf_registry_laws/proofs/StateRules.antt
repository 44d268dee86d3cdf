-- A state whose columns have no fault is sound.
use Rattle.std.proofs.Common.{◌≡◌, ◌⊎◌, inl, inr, ⊎_elim, ℕ, ◌≤◌, Bool, true, false, List, [], ◌∷◌, length, Option, None, Result, Ok, Err, refl, sym, ap, ◌∙◌, eqb}
use Rattle.std.specs.Prelude.{not, ◌&&◌, ◌||◌, nat_lt, if◌then◌else◌, codes}
use Rattle.std.specs.List.{list_all, list_any}
use Rattle.std.specs.Char.{is_ascii_alphabetic}
use Rattle.std.proofs.lemmas.Bool.{or_cases, false≢true, eqb-true, leb-true, ltb-false, both_ways}
use Rattle.wf_model.specs.declared.registry.Entry.{Entry}
use Rattle.wf_model.specs.declared.registry.RegistryKind.{RegistryKind}
use Rattle.wf_model.specs.declared.registry.RegistryKind.TheVariants.{Unsupported, Columns, Duplicate}
use Rattle.wf_model.specs.Reading.{fault_unless, fault_if, first_fault}
use Rattle.wf_model.specs.Letters.{Text, is_name, is_dash, is_among, lower}
use Rattle.wf_model.specs.Io.{IoPart, io_of, parts_of}
use Rattle.wf_model.specs.Entries.{column, is_integer, is_two}
use Rattle.wf_model.specs.Judging.{fault_of_result, is_known, all_known, is_in_order, is_letter_b, is_stagger, has_z, symbol_of, integer_faults, state_faults, is_state_type, taken_names, level_fault}
use Rattle.wf_registry_laws.specs.EntryRules.{IsSoundInteger, IsSoundState}
use Rattle.wf_registry_laws.proofs.Tests.{no_faults, or_none, unless_passes, if_fails, same_text}

read_again : {A : Type 0} (r : Result A RegistryKind) (parts : Result A RegistryKind → A) → ((a : A) → parts (Ok a) ≡ a) → fault_of_result r ≡ None → r ≡ Ok (parts r)
read_again (Ok a) parts is e = ap (λ (x : _). Ok x) (sym (is a))
read_again (Err k) parts is e = cc

io_read : (r : Result (List IoPart) RegistryKind) → fault_of_result r ≡ None → r ≡ Ok (parts_of r)
io_read r e = read_again r parts_of (λ ps. refl) e

and_false : (a b : Bool) → (a && b) ≡ false → a ≡ true → b ≡ false
and_false true b e h = e
and_false false b e h = absurd (false≢true h)

not_is : (b : Bool) → not b ≡ true → b ≡ false
not_is false e = refl
not_is true e = absurd (false≢true e)

not_not : (b : Bool) → not b ≡ false → b ≡ true
not_not true e = refl
not_not false e = absurd (false≢true (sym e))

both_parts : (a b : Bool) → (a && b) ≡ true → (a ≡ true) × (b ≡ true)
both_parts true b e = (refl, e)
both_parts false b e = absurd (false≢true e)

-- ---- staggering

-- a stagger column without a fault, where all letters are known
stagger_by : (dash good z known two : Bool) → (if dash then None else fault_unless (good && not (z && known && two)) Columns) ≡ None →
    ((dash ≡ true) ⊎ (good ≡ true)) × (known ≡ true → (dash ≡ true) ⊎ (z ≡ true → two ≡ false))
stagger_by true good z known two e = (inl refl, λ k. inl refl)
stagger_by false good z known two e =
    let h = both_parts good (not (z && known && two)) (unless_passes (good && not (z && known && two)) Columns e) in
    (inr h.0, λ k. inr (λ has. third z known two (not_is (z && known && two) h.1) has k))
  where
    third : (a b c : Bool) → (a && b && c) ≡ false → a ≡ true → b ≡ true → c ≡ false
    third true true c e a b = e
    third false b c e a h = absurd (false≢true a)
    third true false c e a h = absurd (false≢true h)

three : (n : ℕ) → (n ≡ 2) ⊎ (n ≡ 3) → eqb n 2 ≡ false → n ≡ 3
three n h e = ⊎_elim (λ two. absurd (both_ways (eqb n 2) e (ap (λ m. eqb m 2) two))) (λ t. t) h

dash_is_flat : (word : Text) → is_dash word ≡ true → has_z word ≡ true → ⊥
dash_is_flat word dash z = false≢true (sym (ap has_z (same_text word (codes "-") dash)) ∙ z)

high_where_z : (n : ℕ) (word : Text) → (n ≡ 2) ⊎ (n ≡ 3) → (is_dash word ≡ true) ⊎ (has_z word ≡ true → eqb n 2 ≡ false) → has_z word ≡ true → n ≡ 3
high_where_z n word count h z = ⊎_elim (λ dash. absurd (dash_is_flat word dash z)) (λ f. three n count (f z)) h

-- ---- integer fields

count_is : (n : ℕ) → ((eqb n 2) || (eqb n 3)) ≡ true → (n ≡ 2) ⊎ (n ≡ 3)
count_is n e = ⊎_elim (λ h. inl (eqb-true n 2 h)) (λ h. inr (eqb-true n 3 h)) (or_cases (eqb n 2) (eqb n 3) e)

short_is : (two : Bool) (n : ℕ) → (two && nat_lt 62 n) ≡ false → two ≡ true → n ≤ 62
short_is two n e h = ltb-false 62 n (and_false two (nat_lt 62 n) e h)

integer_is_sound : (all before : List Entry) (cols : List Text) → all_known all (column cols 2) ≡ true → first_fault (integer_faults all before cols) ≡ None
    → IsSoundInteger all (symbol_of cols) (column cols 2) (column cols 4) (column cols 5) (column cols 6) (column cols 7) (column cols 8) (column cols 9)
integer_is_sound all before cols known e =
    let h = no_faults (integer_faults all before cols) e in
    let dims = column cols 2 in
    let d = no_faults (
    fault_unless ((eqb (length dims) 2) || (eqb (length dims) 3)) Unsupported
    ∷ fault_unless (list_all is_ascii_alphabetic dims) (if list_any (λ c. eqb c 123) dims then Unsupported else Columns)
    ∷ fault_if (list_any is_letter_b dims && not (is_known all 98)) Unsupported
    ∷ fault_if (all_known all dims && not (is_in_order all dims)) Unsupported
    ∷ []) h.0 in
    let count = count_is (length dims) (unless_passes _ Unsupported d.0) in
    let s = stagger_by (is_dash (column cols 5)) (is_stagger (column cols 5)) (has_z (column cols 5)) (all_known all dims) (eqb (length dims) 2) h.1.1.1.1.0 in
    record {
      count = count;
      known = known;
      ordered = not_not (is_in_order all dims) (and_false (all_known all dims) (not (is_in_order all dims)) (if_fails _ Unsupported d.1.1.1.0) known);
      one_or_two = unless_passes _ Unsupported h.1.0;
      short = short_is (is_two (column cols 4)) (length (symbol_of cols)) (if_fails _ Columns h.1.1.0);
      staggered = s.0;
      high = high_where_z (length dims) (column cols 5) count (s.1 known);
      io_is_read = io_read (io_of (column cols 6)) h.1.1.1.1.1.0;
      variable = unless_passes _ Columns h.1.1.1.1.1.1.0;
      described = leb-true (length (column cols 8)) 256 (unless_passes _ Columns h.1.1.1.1.1.1.1.1.0);
      unit = leb-true (length (column cols 9)) 256 (unless_passes _ Columns h.1.1.1.1.1.1.1.1.1.0);
    }

-- ---- states

where_true : (b : Bool) {F : Type 0} (xs ys : List (Option F)) → b ≡ true → first_fault (if b then xs else ys) ≡ None → first_fault xs ≡ None
where_true true xs ys h e = e
where_true false xs ys h e = absurd (false≢true h)

-- behind the first three tests
pub integer_faults_none : (all before : List Entry) (cols : List Text) → first_fault (state_faults all before cols) ≡ None
    → first_fault (if is_integer (column cols 0) then integer_faults all before cols else level_fault before cols ∷ []) ≡ None
integer_faults_none all before cols e =
    let names = fault_if (is_among (symbol_of cols) (taken_names before)) Duplicate in
    let rest = if is_integer (column cols 0) then integer_faults all before cols else level_fault before cols ∷ [] in
    let first = or_none (fault_unless (is_state_type (column cols 0)) Columns) (fault_unless (is_name (symbol_of cols)) Columns ∷ names ∷ rest) e in
    let second = or_none (fault_unless (is_name (symbol_of cols)) Columns) (names ∷ rest) first.1 in
    (or_none names rest second.1).1

pub state_is_sound : (all before : List Entry) (cols : List Text) → (is_integer (column cols 0) ≡ true → all_known all (column cols 2) ≡ true) → first_fault (state_faults all before cols) ≡ None
    → IsSoundState all (column cols 0) (lower (column cols 1)) (column cols 2) (column cols 4) (column cols 5) (column cols 6) (column cols 7) (column cols 8) (column cols 9)
state_is_sound all before cols known e =
    let h = no_faults (state_faults all before cols) e in
    record {
      type = unless_passes _ Columns h.0;
      named = unless_passes _ Columns h.1.0;
      integer = λ is. integer_is_sound all before cols (known is) (where_true (is_integer (column cols 0)) (integer_faults all before cols) (level_fault before cols ∷ []) is (integer_faults_none all before cols e));
    }
