-- Ranges of numbers, and lists made from them.
use Rattle.std.proofs.Common.{◌≡◌, ℕ, zero, suc, ◌+◌, ◌<◌, List, [], ◌∷◌, ◌++◌, map, flat_map, sum_by, refl, sym, ap, ◌∙◌, arith}
use Rattle.std.specs.List.{range_with_len}
use Rattle.std.proofs.lemmas.List.Sums.{sum_by-append}
use Rattle.std.proofs.lemmas.List.{map-append}
use Rattle.std.proofs.lemmas.Grind.{flat_map-append}

-- a range in two parts
pub range_split : (a n m : ℕ) → range_with_len a (n + m) ≡ range_with_len a n ++ range_with_len (a + n) m
range_split a zero m =
    let e : zero + m ≡ m = omega arith in
    let f : a ≡ a + zero = omega arith in
    ap (range_with_len a) e ∙ ap (λ k. range_with_len k m) f
range_split a (suc n) m =
    let e : suc n + m ≡ suc (n + m) = omega arith in
    let f : a + 1 + n ≡ a + suc n = omega arith in
    ap (range_with_len a) e ∙ ap (λ (xs : List ℕ). a ∷ xs) (range_split (a + 1) n m ∙ ap (λ k. range_with_len (a + 1) n ++ range_with_len k m) f)

-- a list made from a range in two parts
pub map_split : {X : Type 0} (f : ℕ → X) (a n m : ℕ) → map f (range_with_len a (n + m)) ≡ map f (range_with_len a n) ++ map f (range_with_len (a + n) m)
map_split f a n m = ap (map f) (range_split a n m) ∙ map-append f (range_with_len a n) (range_with_len (a + n) m)

pub flat_map_split : {X : Type 0} (f : ℕ → List X) (a n m : ℕ) → flat_map f (range_with_len a (n + m)) ≡ flat_map f (range_with_len a n) ++ flat_map f (range_with_len (a + n) m)
flat_map_split f a n m = ap (flat_map f) (range_split a n m) ∙ flat_map-append f (range_with_len a n) (range_with_len (a + n) m)

-- a sum over a range in two parts
pub sum_split : (f : ℕ → ℕ) (a n m : ℕ) → sum_by f (range_with_len a (n + m)) ≡ sum_by f (range_with_len a n) + sum_by f (range_with_len (a + n) m)
sum_split f a n m = ap (sum_by f) (range_split a n m) ∙ sum_by-append f (range_with_len a n) (range_with_len (a + n) m)

sum_one : (f : ℕ → ℕ) (x : ℕ) → sum_by f (x ∷ []) ≡ f x
sum_one f x = omega arith

-- a sum's first number
pub sum_cons : {X : Type 0} (f : X → ℕ) (x : X) (xs : List X) → sum_by f (x ∷ xs) ≡ f x + sum_by f xs
sum_cons f x xs = let one : sum_by f (x ∷ []) ≡ f x = omega arith in sum_by-append f (x ∷ []) xs ∙ ap (λ k. k + sum_by f xs) one

-- a sum with one number more
pub sum_more : (f : ℕ → ℕ) (n : ℕ) → sum_by f (range_with_len 0 (n + 1)) ≡ sum_by f (range_with_len 0 n) + f n
sum_more f n = let e : 0 + n ≡ n = omega arith in sum_split f 0 n 1 ∙ ap (λ x. sum_by f (range_with_len 0 n) + x) (sum_one f (0 + n) ∙ ap f e)

-- sums of the same numbers
pub sum_same : (f g : ℕ → ℕ) (a b n : ℕ) → ((k : ℕ) → k < n → f (a + k) ≡ g (b + k)) → sum_by f (range_with_len a n) ≡ sum_by g (range_with_len b n)
sum_same f g a b zero h = refl
sum_same f g a b (suc n) h =
    let head : f a ≡ g b =
    let p : a ≡ a + 0 = omega arith in
    let q : b + 0 ≡ b = omega arith in ap f p ∙ h 0 (omega arith) ∙ ap g q in
    let rest = sum_same f g (a + 1) (b + 1) n (λ k hk.
    let p : a + 1 + k ≡ a + (k + 1) = omega arith in
    let q : b + (k + 1) ≡ b + 1 + k = omega arith in ap f p ∙ h (k + 1) (omega arith) ∙ ap g q) in
    sum_cons f a (range_with_len (a + 1) n) ∙ ap (λ k. k + sum_by f (range_with_len (a + 1) n)) head ∙ ap (λ k. g b + k) rest ∙ sym (sum_cons g b (range_with_len (b + 1) n))

-- a sum over a list that was made from numbers
pub sum_map : {X : Type 0} (f : X → ℕ) (g : ℕ → X) (xs : List ℕ) → sum_by f (map g xs) ≡ sum_by (λ x. f (g x)) xs
sum_map f g [] = refl
sum_map f g (x ∷ xs) = sum_cons f (g x) (map g xs) ∙ ap (λ k. f (g x) + k) (sum_map f g xs) ∙ sym (sum_cons (λ y. f (g y)) x xs)
