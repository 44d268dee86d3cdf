-- One number, row or plane more of a level in file shape.
use Rattle.std.proofs.Common.{◌≡◌, ℕ, ◌+◌, Bool, List, [], ◌∷◌, ◌++◌, map, flat_map, refl, sym, ap, ◌∙◌, append_assoc, arith}
use Rattle.std.specs.Prelude.{pos, ◌+ℤ◌}
use Rattle.std.specs.List.{range_with_len}
use Rattle.std.proofs.lemmas.Int.{ints}
use Rattle.std.proofs.lemmas.List.{flat_map_more}
use Rattle.std.proofs.lemmas.List.FromFn.{map-range_with_len_more}
use Rattle.wf_model.specs.Plans.{wrapped}
use Rattle.wf_grid.proofs.Meeting.{wrap_same}

map_same : {A : Type 0} (xs : List A) → map (λ x. x) xs ≡ xs
map_same [] = refl
map_same (x ∷ xs) = ap (λ ys. x ∷ ys) (map_same xs)

-- the numbers from 1 on, with the next
range_more : (n : ℕ) → range_with_len 1 (n + 1) ≡ range_with_len 1 n ++ (n + 1) ∷ []
range_more n =
    sym (map_same (range_with_len 1 (n + 1))) ∙ map-range_with_len_more (λ x. x) 1 n (n + 1) (omega arith)
    ∙ ap (λ (xs : List ℕ). xs ++ (n + 1) ∷ []) (map_same (range_with_len 1 n))

pub grow_map : {X : Type 0} (F : ℕ → X) (old values new : List X) (n : ℕ) (v : X) → values ≡ old ++ map F (range_with_len 1 n) → new ≡ values ++ v ∷ [] → v ≡ F (n + 1) → new ≡ old ++ map F (range_with_len 1 (n + 1))
grow_map F old values new n v so_far more value =
    more ∙ (λ i. so_far i ++ value i ∷ []) ∙ append_assoc old (map F (range_with_len 1 n)) (F (n + 1) ∷ [])
    ∙ ap (λ (xs : List _). old ++ xs) (sym (map-range_with_len_more F 1 n (n + 1) (omega arith)))

pub grow_flat : {X : Type 0} (F : ℕ → List X) (old values new : List X) (n : ℕ) (vs : List X) → values ≡ old ++ flat_map F (range_with_len 1 n) → new ≡ values ++ vs → vs ≡ F (n + 1) → new ≡ old ++ flat_map F (range_with_len 1 (n + 1))
grow_flat F old values new n vs so_far more value =
    more ∙ (λ i. so_far i ++ value i) ∙ flat_map_more F old (range_with_len 1 n) (n + 1)
    ∙ ap (λ (ns : List ℕ). old ++ flat_map F ns) (sym (range_more n))

-- the point that the code finds
pub point_at : (p q : Bool) (m n c r : ℕ) → r ≡ wrapped p m (pos c +ℤ pos 0) → p ≡ q → m ≡ n → r ≡ wrapped q n (pos c)
point_at p q m n c r e ep em = let same : pos c +ℤ pos 0 ≡ pos c = omega (arith, ints) in wrap_same p q m n (pos c +ℤ pos 0) (pos c) r e ep em same
