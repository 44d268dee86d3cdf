-- Lists of tests of which none fails.
use Rattle.std.proofs.Common.{◌≡◌, ℕ, zero, suc, ◌+◌, ◌<◌, ◌≤◌, Bool, true, false, List, [], ◌∷◌, ◌++◌, map, Option, Some, None, refl, sym, ◌∙◌, subst, ⊎_elim, arith, if◌then◌else◌}
use Rattle.std.specs.Prelude.{flat_map}
use Rattle.std.specs.List.{AllByRecursion, range_with_len}
use Rattle.std.specs.Option.{option_or}
use Rattle.std.proofs.lemmas.Bool.{cases_eq}
use Rattle.std.proofs.lemmas.List.Concat.{flat_map-cons}
use Rattle.wf_model.specs.Reading.{first_fault}
use Rattle.wf_model.proofs.ReadingLemmas.{first_fault-append}
use Rattle.wf_registry_laws.proofs.Tests.{or_none}

neither : {F : Type 0} (a b : Option F) → option_or a b ≡ None → (a ≡ None) × (b ≡ None)
neither None b e = (refl, e)
neither (Some f) b e = cc

-- none fails of the first list, and none of the second
pub both_pass : {F : Type 0} (fs gs : List (Option F)) → first_fault (fs ++ gs) ≡ None → (first_fault fs ≡ None) × (first_fault gs ≡ None)
both_pass fs gs e = neither (first_fault fs) (first_fault gs) (sym (first_fault-append fs gs) ∙ e)

-- each of a map
pub each_passes : {X F : Type 0} (f : X → Option F) (xs : List X) → first_fault (map f xs) ≡ None → AllByRecursion (λ x. f x ≡ None) xs
each_passes f [] e = tt
each_passes f (x ∷ xs) e = let h = or_none (f x) (map f xs) e in (h.0, each_passes f xs h.1)

-- each list of a flat map
pub each_list_passes : {X F : Type 0} (f : X → List (Option F)) (xs : List X) → first_fault (flat_map f xs) ≡ None → AllByRecursion (λ x. first_fault (f x) ≡ None) xs
each_list_passes f [] e = tt
each_list_passes f (x ∷ xs) e =
    let h = both_pass (f x) (flat_map f xs) (subst (λ fs. first_fault fs ≡ None) (flat_map-cons f x xs) e) in
    (h.0, each_list_passes f xs h.1)

-- what holds of all numbers from one on holds of each
pub in_range : (P : ℕ → Type 0) (a n : ℕ) → AllByRecursion P (range_with_len a n) → (k : ℕ) → a ≤ k → k < a + n → P k
in_range P a zero h k low high = absurd (omega arith)
in_range P a (suc n) h k low high =
    ⊎_elim (λ (e : a ≡ k). subst P e h.0)
    (λ (ne : a ≡ k → ⊥). in_range P (a + 1) n h.1 k (omega (arith, ne)) (omega arith))
    (cases_eq a k)

-- where the test holds, the list has no fault
pub where_true : {F : Type 0} (test : Bool) (fs : List (Option F)) → first_fault (if test then fs else []) ≡ None → test ≡ true → first_fault fs ≡ None
where_true true fs e t = e
where_true false fs e t = cc

-- each list of a flat map of flat maps
pub each_of_two : {X Y F : Type 0} (f : X → Y → List (Option F)) (xs : List X) (ys : List Y) → first_fault (flat_map (λ x. flat_map (f x) ys) xs) ≡ None
    → AllByRecursion (λ x. AllByRecursion (λ y. first_fault (f x y) ≡ None) ys) xs
each_of_two f [] ys e = tt
each_of_two f (x ∷ xs) ys e =
    let h = both_pass (flat_map (f x) ys) (flat_map (λ z. flat_map (f z) ys) xs) (subst (λ fs. first_fault fs ≡ None) (flat_map-cons (λ z. flat_map (f z) ys) x xs) e) in
    (each_list_passes (f x) ys h.0, each_of_two f xs ys h.1)
