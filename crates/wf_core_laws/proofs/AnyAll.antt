-- Tests of all or any of a list, in parts of it.
use Rattle.std.proofs.Common.{◌≡◌, ◌||◌, cond, Bool, true, false, not, List, [], ◌∷◌, map, refl, ap, ◌∙◌}
use Rattle.std.specs.Prelude.{filter}
use Rattle.std.specs.List.{list_any, list_all}
use Rattle.wf_laws.proofs.Bools.{and_left, and_right, and_both}

-- two of three tests change places
swap_or : (a b c : Bool) → (a || (b || c)) ≡ (b || (a || c))
swap_or true true c = refl
swap_or true false c = refl
swap_or false b c = refl

-- three tests, joined otherwise
join_or : (a b c : Bool) → ((a || b) || c) ≡ (a || (b || c))
join_or true b c = refl
join_or false b c = refl

-- a test that nothing else helps
or_false : (a : Bool) → (a || false) ≡ true → a ≡ true
or_false true h = refl
or_false false h = h

-- a filter and its rest together hold all
pub any-parts : {A : Type 0} (test keep : A → Bool) (xs : List A) → (list_any test (filter (λ x. not (keep x)) xs) || list_any test (filter keep xs)) ≡ list_any test xs
any-parts test keep [] = refl
any-parts test keep (x ∷ xs) =
    (elim (keep x) as (λ b. (list_any test (cond (not b) (x ∷ filter (λ x. not (keep x)) xs) (filter (λ x. not (keep x)) xs)) || list_any test (cond b (x ∷ filter keep xs) (filter keep xs))) ≡ list_any test (x ∷ xs)) [
      | true ↦ swap_or (list_any test (filter (λ x. not (keep x)) xs)) (test x) (list_any test (filter keep xs)) ∙ ap (λ b. test x || b) (any-parts test keep xs)
      | false ↦ join_or (test x) (list_any test (filter (λ x. not (keep x)) xs)) (list_any test (filter keep xs)) ∙ ap (λ b. test x || b) (any-parts test keep xs)
    ])

-- what moves from one list to another is found in one of them
pub over : (a a' b c : Bool) → (a' || c) ≡ a → (a || b) ≡ true → (a' || (b || c)) ≡ true
over a true b c h k = refl
over a false true c h k = refl
over a false false c h k = h ∙ or_false a k

-- what is found is found among more
pub more : (a a' b : Bool) → (a || b) ≡ true → ((a || a') || b) ≡ true
more true a' b h = refl
more false true b h = refl
more false false b h = h

-- a test of any of a mapped list
pub any-map : {A B : Type 0} (test : B → Bool) (f : A → B) (xs : List A) → list_any test (map f xs) ≡ list_any (λ x. test (f x)) xs
any-map test f [] = refl
any-map test f (x ∷ xs) = ap (λ b. test (f x) || b) (any-map test f xs)

-- a test of all of a filter
pub all-filter : {A : Type 0} (test keep : A → Bool) (xs : List A) → list_all test xs ≡ true → list_all test (filter keep xs) ≡ true
all-filter test keep [] h = refl
all-filter test keep (x ∷ xs) h =
    (elim (keep x) as (λ b. list_all test (cond b (x ∷ filter keep xs) (filter keep xs)) ≡ true) [
      | true ↦ and_both (test x) _ (and_left (test x) _ h) (all-filter test keep xs (and_right (test x) _ h))
      | false ↦ all-filter test keep xs (and_right (test x) _ h)
    ])
