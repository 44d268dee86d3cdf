-- Lists made of parts, one for each number of a range.
use Rattle.std.proofs.Common.{◌≡◌, ℕ, zero, suc, ◌+◌, ◌*◌, ◌<◌, ◌≤◌, Bool, true, false, List, [], ◌∷◌, ◌++◌, map, length, take, refl, ap, ◌∙◌, arith}
use Rattle.std.proofs.Math.Seq.{take-append-add}
use Rattle.std.proofs.Math.Nat.{suc-mul, zero-mul}
use Rattle.std.specs.Prelude.{flat_map, filter, fold}
use Rattle.std.specs.List.{range_with_len}

-- the same parts make the same list
pub flat_map-same : {X A : Type 0} (f g : X → List A) (xs : List X) → ((x : X) → f x ≡ g x) → flat_map f xs ≡ flat_map g xs
flat_map-same f g [] h = refl
flat_map-same f g (x ∷ xs) h = λ n. h x n ++ flat_map-same f g xs h n

pub map-range_same : {A : Type 0} (f g : ℕ → A) (a n : ℕ) → ((k : ℕ) → a ≤ k → k < a + n → f k ≡ g k) → map f (range_with_len a n) ≡ map g (range_with_len a n)
map-range_same f g a zero h = refl
map-range_same f g a (suc n) h =
    let first : f a ≡ g a = h a (omega arith) (omega arith) in
    let rest = map-range_same f g (a + 1) n (λ k l u. h k (omega arith) (omega arith)) in
    λ m. first m ∷ rest m

-- of parts with c items each
module _ {A : Type 0} (f : ℕ → List A) (c : ℕ) (each : (n : ℕ) → length (f n) ≡ c) where
  -- the front of so many parts
  pub take-parts : (a n more : ℕ) → n ≤ more → take (n * c) (flat_map f (range_with_len a more)) ≡ flat_map f (range_with_len a n)
  take-parts a zero more h = rw (zero-mul c) refl
  take-parts a (suc n) zero h = absurd (omega arith)
  take-parts a (suc n) (suc more) h =
      let items : suc n * c ≡ length (f a) + n * c = omega (arith, suc-mul n c, each a) in
      rw (items, take-append-add (f a) (flat_map f (range_with_len (a + 1) more)) (n * c)) (ap (λ (xs : List A). f a ++ xs) (take-parts (a + 1) n more (omega arith)))

-- what is made of each item of another list
pub flat_map-map_range : {X A : Type 0} (f : X → List A) (h : ℕ → X) (g : ℕ → List A) (a n : ℕ) → ((k : ℕ) → a ≤ k → k < a + n → f (h k) ≡ g k) →
    flat_map f (map h (range_with_len a n)) ≡ flat_map g (range_with_len a n)
flat_map-map_range f h g a zero same = refl
flat_map-map_range f h g a (suc n) same =
    let first : f (h a) ≡ g a = same a (omega arith) (omega arith) in
    let rest = flat_map-map_range f h g (a + 1) n (λ k l u. same k (omega arith) (omega arith)) in
    λ m. first m ++ rest m

-- sums of the same numbers
pub sum-map_range : {X : Type 0} (f : X → ℕ) (h : ℕ → X) (g : ℕ → ℕ) (so_far a n : ℕ) → ((k : ℕ) → a ≤ k → k < a + n → f (h k) ≡ g k) →
    fold (λ s x. s + f x) so_far (map h (range_with_len a n)) ≡ fold (λ s k. s + g k) so_far (range_with_len a n)
sum-map_range f h g so_far a zero same = refl
sum-map_range f h g so_far a (suc n) same =
    let first : f (h a) ≡ g a = same a (omega arith) (omega arith) in
    ap (λ (t : ℕ). fold (λ s x. s + f x) (so_far + t) (map h (range_with_len (a + 1) n))) first
    ∙ sum-map_range f h g (so_far + g a) (a + 1) n (λ k l u. same k (omega arith) (omega arith))

-- and of one number
pub sum-constant : (c so_far a n : ℕ) → fold (λ (s k : ℕ). s + c) so_far (range_with_len a n) ≡ so_far + n * c
sum-constant c so_far a zero = omega (arith, zero-mul c)
sum-constant c so_far a (suc n) = omega (arith, sum-constant c (so_far + c) (a + 1) n, suc-mul n c)

-- a test that all pass, or none
pub filter-map_all : {X : Type 0} (p : X → Bool) (h : ℕ → X) (ks : List ℕ) → ((k : ℕ) → p (h k) ≡ true) → filter p (map h ks) ≡ map h ks
filter-map_all p h [] passes = refl
filter-map_all p h (k ∷ ks) passes = rw (passes k) (ap (λ (xs : List _). h k ∷ xs) (filter-map_all p h ks passes))

pub filter-map_range_none : {X : Type 0} (p : X → Bool) (h : ℕ → X) (a n : ℕ) → ((k : ℕ) → a ≤ k → p (h k) ≡ false) → filter p (map h (range_with_len a n)) ≡ []
filter-map_range_none p h a zero fails = refl
filter-map_range_none p h a (suc n) fails = let now = fails a (omega arith) in rw now (filter-map_range_none p h (a + 1) n (λ k l. fails k (omega arith)))
