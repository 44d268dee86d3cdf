-- Sums of rows and of columns, and of numbers that a function gives.
use Rattle.std.proofs.Common.{◌≡◌, inl, inr, ℕ, ◌+◌, List, [], ◌∷◌, ◌++◌, map, refl, sym, ap, ◌∙◌, arith}
use Rattle.std.proofs.lemmas.List.Sums.{sum_by-cons, fold-append}
use Rattle.std.specs.Prelude.{ℤ, pos, ◌+ℤ◌, fold, flat_map, sum_by}
use Rattle.wf_laws.proofs.Members.{In}

-- a sum with nothing added
plus_none : (n : ℕ) → n ≡ n + 0
plus_none n = omega arith

-- a sum of zeros, and of sums
sum-none : {X : Type 0} (xs : List X) → sum_by (λ (x : X). 0) xs ≡ 0
sum-none [] = refl
sum-none (x ∷ xs) = sum-none xs

sum-add : {X : Type 0} (f g : X → ℕ) (xs : List X) → sum_by (λ x. f x + g x) xs ≡ sum_by f xs + sum_by g xs
sum-add f g [] = refl
sum-add f g (x ∷ xs) = omega (arith, sum_by-cons (λ y. f y + g y) x xs, sum_by-cons f x xs, sum_by-cons g x xs, sum-add f g xs)

-- the sum of the rows' sums is that of the columns' sums
pub sum-swap : {X Y : Type 0} (f : X → Y → ℕ) (xs : List X) (ys : List Y) → sum_by (λ x. sum_by (f x) ys) xs ≡ sum_by (λ y. sum_by (λ x. f x y) xs) ys
sum-swap f xs [] = sum-none xs
sum-swap f xs (y ∷ ys) =
    (λ n. sum_by (λ x. sum_by-cons (f x) y ys n) xs)
    ∙ sum-add (λ x. f x y) (λ x. sum_by (f x) ys) xs
    ∙ ap (λ (n : ℕ). sum_by (λ x. f x y) xs + n) (sum-swap f xs ys)
    ∙ sym (sum_by-cons (λ z. sum_by (λ x. f x z) xs) y ys)

-- of the numbers at some cells, where they are known
pub sum-cells : {X C : Type 0} (number : C → ℤ) (cell : X → C) (v : X → ℕ) (so_far : ℕ) (xs : List X) → ((x : X) → In x xs → number (cell x) ≡ pos (v x)) →
    fold (λ a c. a +ℤ number c) (pos so_far) (map cell xs) ≡ pos (so_far + sum_by v xs)
sum-cells number cell v so_far [] known = ap pos (plus_none so_far)
sum-cells number cell v so_far (x ∷ xs) known =
    ap (λ (z : ℤ). fold (λ a c. a +ℤ number c) (pos so_far +ℤ z) (map cell xs)) (known x (inl refl))
    ∙ sum-cells number cell v (so_far + v x) xs (λ y i. known y (inr i))
    ∙ ap pos (omega (arith, sum_by-cons v x xs))

-- and of a row of cells after another
pub sum-rows : {X J C : Type 0} (number : C → ℤ) (cell : J → X → C) (v : J → X → ℕ) (so_far : ℕ) (xs : List X) (js : List J) → ((j : J) → In j js → (x : X) → In x xs → number (cell j x) ≡ pos (v j x)) →
    fold (λ a c. a +ℤ number c) (pos so_far) (flat_map (λ j. map (cell j) xs) js) ≡ pos (so_far + sum_by (λ j. sum_by (v j) xs) js)
sum-rows number cell v so_far xs [] known = ap pos (plus_none so_far)
sum-rows number cell v so_far xs (j ∷ js) known =
    fold-append (λ a c. a +ℤ number c) (pos so_far) (map (cell j) xs) (flat_map (λ y. map (cell y) xs) js)
    ∙ ap (λ (z : ℤ). fold (λ a c. a +ℤ number c) z (flat_map (λ y. map (cell y) xs) js)) (sum-cells number (cell j) (v j) so_far xs (known j (inl refl)))
    ∙ sum-rows number cell v (so_far + sum_by (v j) xs) xs js (λ y i. known y (inr i))
    ∙ ap pos (omega (arith, sum_by-cons (λ y. sum_by (v y) xs) j js))

-- what is made of a list that was made
pub map-map : {X Y Z : Type 0} (g : Y → Z) (f : X → Y) (xs : List X) → map g (map f xs) ≡ map (λ x. g (f x)) xs
map-map g f [] = refl
map-map g f (x ∷ xs) = ap (λ (zs : List _). g (f x) ∷ zs) (map-map g f xs)

pub flat_map-map : {X Y Z : Type 0} (g : Y → List Z) (f : X → Y) (xs : List X) → flat_map g (map f xs) ≡ flat_map (λ x. g (f x)) xs
flat_map-map g f [] = refl
flat_map-map g f (x ∷ xs) = ap (λ (zs : List _). g (f x) ++ zs) (flat_map-map g f xs)
