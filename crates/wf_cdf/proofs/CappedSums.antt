-- Saturating sums and products are the least of the exact ones and the greatest number.
use Rattle.std.proofs.Common.{◌≡◌, ◌⊎◌, ℕ, suc, zero, ◌+◌, ◌-◌, ◌*◌, ◌%◌, ◌^◌, ◌<◌, ◌≤◌, min, arith, refl, inl, inr}
use Rattle.std.proofs.lemmas.Bool.{cases_lt}
use Rattle.std.proofs.Math.Nat.{mul_comm}
use Rattle.wf_cdf.specs.Capped.{capped}
use Rattle.wf_model.specs.Sizes.{rounded}

-- over any greatest number
min_add-min : (t a b : ℕ) → min (min a t + min b t) t ≡ min (a + b) t
min_add-min t a b = omega arith

min_mul-beyond : (t a b : ℕ) → t ≤ a → min (t * b) t ≡ min (a * b) t
min_mul-beyond t a zero h = omega arith
min_mul-beyond t a (suc b) h = omega arith

min_mul-cases : (t a b m : ℕ) → m ≡ min a t → (a < t) ⊎ (t ≤ a) → min (m * b) t ≡ min (a * b) t
min_mul-cases t a b m e (inl h) = let same : m ≡ a = omega arith in rw same refl
min_mul-cases t a b m e (inr h) = let same : m ≡ t = omega arith in rw same (min_mul-beyond t a b h)

min_mul-min : (t a b : ℕ) → min (min a t * b) t ≡ min (a * b) t
min_mul-min t a b = min_mul-cases t a b (min a t) refl (cases_lt a t)

-- a sum of capped numbers
pub capped_add : (a b : ℕ) → min (capped a + capped b) (2 ^ 128 - 1) ≡ capped (a + b)
unfolding capped
capped_add a b = min_add-min (2 ^ 128 - 1) a b

-- and a number of its own
pub capped_add_left : (a b : ℕ) → min (a + capped b) (2 ^ 128 - 1) ≡ capped (a + b)
unfolding capped
capped_add_left a b = omega arith

pub capped_add_right : (a b : ℕ) → min (capped a + b) (2 ^ 128 - 1) ≡ capped (a + b)
unfolding capped
capped_add_right a b = omega arith

-- a product of a capped number
pub capped_mul : (a b : ℕ) → min (capped a * b) (2 ^ 128 - 1) ≡ capped (a * b)
unfolding capped
capped_mul a b = min_mul-min (2 ^ 128 - 1) a b

pub capped_mul_left : (a b : ℕ) → min (a * capped b) (2 ^ 128 - 1) ≡ capped (a * b)
capped_mul_left a b = rw (mul_comm a (capped b), mul_comm a b) (capped_mul b a)

-- a number that stays as it is
pub capped_small : (a : ℕ) → a < 2 ^ 128 → capped a ≡ a
unfolding capped
capped_small a h = omega arith

-- a number rounded up by its padding
pub capped_padding : (a : ℕ) → min (a + (4 - a % 4) % 4) (2 ^ 128 - 1) ≡ capped (rounded a)
unfolding capped
capped_padding a = omega arith

pub capped_rounded : (a : ℕ) → capped (rounded (capped a)) ≡ capped (rounded a)
unfolding capped
capped_rounded a = omega arith
