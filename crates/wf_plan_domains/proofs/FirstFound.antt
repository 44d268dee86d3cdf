-- Loops over numbers that look for the first fault.
use Rattle.std.proofs.Common.{◌≡◌, ℕ, zero, suc, ◌+◌, ◌-◌, ◌<◌, ◌≤◌, Bool, true, false, cond, List, [], ◌∷◌, ◌++◌, map, Option, Some, None, is_some, refl, sym, ap, ap₂, ◌∙◌, arith, lit<}
use Rattle.std.specs.List.{filter, flat_map, range_with_len}
use Rattle.std.specs.Prelude.{nat_lt}
use Rattle.std.specs.Option.{option_or}
use Rattle.std.proofs.lemmas.Bool.{false≢true}
use Rattle.std.proofs.lemmas.Bool.Decides.{nat_tests}
use Rattle.wf_model.specs.Reading.{first_fault}
use Rattle.wf_model.proofs.ReadingLemmas.{first_fault-append}

-- the first fault of some numbers, those from one up to below another
abbrev pub first_from : {F : Type 0} → (ℕ → Option F) → ℕ → ℕ → Option F
first_from f d end = first_fault (map f (range_with_len d (end - d)))

more : {F : Type 0} (f : ℕ → Option F) (d end : ℕ) → d < end → first_from f d end ≡ option_or (f d) (first_from f (d + 1) end)
more f d end within =
    let count : end - d ≡ suc (end - (d + 1)) = omega arith in
    ap (λ n. first_fault (map f (range_with_len d n))) count

stays : {F : Type 0} (fault rest : Option F) → is_some fault ≡ true → fault ≡ option_or fault rest
stays None rest e = absurd (false≢true e)
stays (Some f) rest e = refl

goes : {F : Type 0} (fault rest : Option F) → is_some fault ≡ false → rest ≡ option_or fault rest
goes None rest e = refl
goes (Some f) rest e = absurd (false≢true (sym e))

-- a number has a fault
pub met : {F : Type 0} (f : ℕ → Option F) (d end : ℕ) (fault total : Option F)
    → d < end → fault ≡ f d → is_some fault ≡ true → first_from f d end ≡ total → fault ≡ total
met f d end fault total within is some so_far =
    stays fault (first_from f (d + 1) end) some ∙ ap (λ o. option_or o (first_from f (d + 1) end)) is ∙ sym (more f d end within) ∙ so_far

-- a number has none
pub passed : {F : Type 0} (f : ℕ → Option F) (d end : ℕ) (fault total : Option F)
    → d < end → fault ≡ f d → is_some fault ≡ false → first_from f d end ≡ total → first_from f (d + 1) end ≡ total
passed f d end fault total within is none so_far =
    goes fault (first_from f (d + 1) end) none ∙ ap (λ o. option_or o (first_from f (d + 1) end)) is ∙ sym (more f d end within) ∙ so_far

-- no number is left
pub none_left : {F : Type 0} (f : ℕ → Option F) (d end : ℕ) (total : Option F) → end ≤ d → first_from f d end ≡ total → None ≡ total
none_left f d end total past so_far =
    let count : end - d ≡ 0 = omega arith in
    sym (ap (λ n. first_fault (map f (range_with_len d n))) count) ∙ so_far

is_above_one : (a : ℕ) → 1 < a → nat_lt 1 a ≡ true
is_above_one a h = grind (arith, nat_tests)

kept : (b : Bool) (a : ℕ) (r s : List ℕ) → b ≡ true → r ≡ s → cond b (a ∷ r) r ≡ a ∷ s
kept true a r s e same = ap (λ xs. a ∷ xs) same
kept false a r s e same = absurd (false≢true e)

-- all numbers from one above 1 on
above_one : (a n : ℕ) → 1 < a → filter (nat_lt 1) (range_with_len a n) ≡ range_with_len a n
above_one a zero h = refl
above_one a (suc n) h =
    let next : 1 < a + 1 = omega arith in
    kept (nat_lt 1 a) a (filter (nat_lt 1) (range_with_len (a + 1) n)) (range_with_len (a + 1) n) (is_above_one a h) (above_one (a + 1) n next)

-- of so many domains, the nests are those from 2 on
pub nests : (n : ℕ) → filter (nat_lt 1) (range_with_len 1 n) ≡ range_with_len 2 (n - 1)
nests zero = refl
nests (suc n) =
    let count : suc n - 1 ≡ n = omega arith in
    above_one 2 n (lit< tt) ∙ sym (ap (range_with_len 2) count)

-- the first fault of several lists
pub first_of_lists : {A F : Type 0} (f : A → List (Option F)) (xs : List A) → first_fault (flat_map f xs) ≡ first_fault (map (λ x. first_fault (f x)) xs)
first_of_lists f [] = refl
first_of_lists f (x ∷ xs) = first_fault-append (f x) (flat_map f xs) ∙ ap (option_or (first_fault (f x))) (first_of_lists f xs)

-- ---- where a loop begins

-- over the nests of so many domains
pub nests_ahead : {F : Type 0} (f : ℕ → Option F) (last n : ℕ) → last ≡ n → first_from f 2 (last + 1) ≡ first_fault (map f (filter (nat_lt 1) (range_with_len 1 n)))
nests_ahead f last n is =
    let count : last + 1 - 2 ≡ n - 1 = omega arith in
    ap (λ m. first_fault (map f (range_with_len 2 m))) count ∙ ap (λ xs. first_fault (map f xs)) (sym (nests n))

-- over so many domains, of which each has a list of tests
pub lists_ahead : {F : Type 0} (f : ℕ → List (Option F)) (last n : ℕ) → last ≡ n → first_from (λ d. first_fault (f d)) 1 (last + 1) ≡ first_fault (flat_map f (range_with_len 1 n))
lists_ahead f last n is =
    let count : last + 1 - 1 ≡ n = omega arith in
    ap (λ m. first_fault (map (λ d. first_fault (f d)) (range_with_len 1 m))) count ∙ sym (first_of_lists f (range_with_len 1 n))

pub map_map : {A B C : Type 0} (f : A → B) (g : B → C) (xs : List A) → map g (map f xs) ≡ map (λ x. g (f x)) xs
map_map f g [] = refl
map_map f g (x ∷ xs) = ap (λ r. g (f x) ∷ r) (map_map f g xs)

-- ---- lists of one test

pub or_none : {F : Type 0} (fault : Option F) → option_or fault None ≡ fault
or_none None = refl
or_none (Some f) = refl

-- one test more, where the choice says so
pub with_one : {F : Type 0} (xs : List (Option F)) (b : Bool) (x first last : Option F)
    → b ≡ true → first ≡ first_fault xs → last ≡ x → option_or first last ≡ first_fault (xs ++ cond b (x ∷ []) [])
with_one xs true x first last e here there = ap₂ option_or here (there ∙ sym (or_none x)) ∙ sym (first_fault-append xs (x ∷ []))
with_one xs false x first last e here there = absurd (false≢true e)

pub with_none : {F : Type 0} (xs : List (Option F)) (b : Bool) (x first : Option F)
    → b ≡ false → first ≡ first_fault xs → first ≡ first_fault (xs ++ cond b (x ∷ []) [])
with_none xs true x first e here = absurd (false≢true (sym e))
with_none xs false x first e here = here ∙ sym (or_none (first_fault xs)) ∙ sym (first_fault-append xs [])
