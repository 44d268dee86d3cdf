-- A loop that looks for a key and gives what stands beside it, or nothing.
use Rattle.std.proofs.Common.{◌≡◌, ℕ, suc, ◌+◌, ◌<◌, Bool, true, false, cond, List, [], ◌∷◌, map, length, drop, get_or, Option, Some, refl, sym, ap, ◌∙◌, add-one, drop-cons}
use Rattle.std.specs.List.{find}
use Rattle.std.specs.Option.{option_map, unwrap_or}

-- the first item and those behind it
pub drop_at : {A : Type 0} (xs : List A) (i : ℕ) (x : A) → i < length xs → x ≡ get_or xs i x → drop i xs ≡ x ∷ drop (i + 1) xs
drop_at xs i x within is = drop-cons xs i x within ∙ ap (λ y. y ∷ drop (suc i) xs) (sym is) ∙ rw add-one refl

abbrev pub look_up : {A B : Type 0} → (A → Bool) → (A → List B) → List A → List B
look_up test value xs = unwrap_or (option_map value (find test xs)) []

chosen : {A B C : Type 0} (test : A → Bool) (value : A → List B) (view : C → A) (b : Bool) (x : C) (o : Option C) (p : Option A)
    → unwrap_or (option_map (λ x. value (view x)) o) [] ≡ unwrap_or (option_map value p) []
    → unwrap_or (option_map (λ x. value (view x)) (cond b (Some x) o)) [] ≡ unwrap_or (option_map value (cond b (Some (view x)) p)) []
chosen test value view true x o p e = refl
chosen test value view false x o p e = e

-- in a list that another one is seen as
pub look_up_map : {A B C : Type 0} (test : A → Bool) (value : A → List B) (view : C → A) (xs : List C)
    → look_up (λ x. test (view x)) (λ x. value (view x)) xs ≡ look_up test value (map view xs)
look_up_map test value view [] = refl
look_up_map test value view (x ∷ xs) = chosen test value view (test (view x)) x _ _ (look_up_map test value view xs)
