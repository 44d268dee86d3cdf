-- Truth values: their parts, and the tests of equality and of choice.
use Rattle.std.proofs.Common.{◌≡◌, ◌⊎◌, inl, inr, ⊎_elim, ℕ, ◌<◌, ◌≤◌, Bool, true, false, refl, sym, arith}
use Rattle.std.specs.Prelude.{◌&&◌, ◌||◌, ◌==◌, nat_lt, nat_le, if◌then◌else◌}

-- a truth value is true or false
pub split_bool : (b : Bool) → (b ≡ true) ⊎ (b ≡ false)
split_bool true = inl refl
split_bool false = inr refl

-- true is not false
pub differ : true ≡ false → ⊥
differ e = grind arith

-- the first of two that hold
pub and_left : (a b : Bool) → (a && b) ≡ true → a ≡ true
and_left true b h = refl
and_left false b h = grind arith

-- the second of two that hold
pub and_right : (a b : Bool) → (a && b) ≡ true → b ≡ true
and_right true b h = h
and_right false b h = grind arith

-- both hold
pub and_both : (a b : Bool) → a ≡ true → b ≡ true → (a && b) ≡ true
and_both a b p q = λ n. p n && q n

-- the second does not hold
pub and_false : (a b : Bool) → b ≡ false → (a && b) ≡ false
and_false true b h = h
and_false false b h = refl

-- the two do not hold at once
pub both_false : (a b : Bool) → (a ≡ true → b ≡ true → ⊥) → (a && b) ≡ false
both_false true true h = absurd (h refl refl)
both_false true false h = refl
both_false false b h = refl

-- the first of two holds
pub or_left : (a b : Bool) → a ≡ true → (a || b) ≡ true
or_left a b h = λ n. h n || b

-- the second of two holds
pub or_right : (a b : Bool) → b ≡ true → (a || b) ≡ true
or_right true b h = refl
or_right false b h = h

-- the choice where the test holds
pub if_true : {A : Type 0} (b : Bool) (x y : A) → b ≡ true → (if b then x else y) ≡ x
if_true b x y p = λ n. if p n then x else y

-- the choice where it does not
pub if_false : {A : Type 0} (b : Bool) (x y : A) → b ≡ false → (if b then x else y) ≡ y
if_false b x y p = λ n. if p n then x else y

-- what the tests of less and of at most say, and back
pub less_of : (m n : ℕ) → nat_lt m n ≡ true → m < n
less_of m n h = grind arith

pub less_test : (m n : ℕ) → m < n → nat_lt m n ≡ true
less_test m n h = grind arith

pub most_of : (m n : ℕ) → nat_le m n ≡ true → m ≤ n
most_of m n h = grind arith

pub most_test : (m n : ℕ) → m ≤ n → nat_le m n ≡ true
most_test m n h = grind arith

-- numbers that the test finds equal
pub equal_of : (m n : ℕ) → (m == n) ≡ true → m ≡ n
equal_of m n h = grind arith

-- equal numbers pass the test
pub equal_test : (m n : ℕ) → m ≡ n → (m == n) ≡ true
equal_test m n h = grind arith

-- a number passes the test with itself
pub same_number : (n : ℕ) → (n == n) ≡ true
same_number n = grind arith

-- at most is equal or less
pub equal_or_less : (m n : ℕ) → m ≤ n → (m ≡ n) ⊎ (m < n)
equal_or_less m n h = grind arith

-- the second of two holds, where the first does not
pub or_else : (a b : Bool) → a ≡ false → (a || b) ≡ true → b ≡ true
or_else true b e h = absurd (differ e)
or_else false b e h = h

-- unlike numbers do not pass the test
pub unlike : (d x : ℕ) → (x ≡ d → ⊥) → (d == x) ≡ false
unlike d x h = ⊎_elim (λ b. absurd (h (sym (equal_of d x b)))) (λ b. b) (split_bool (d == x))

-- numbers are equal or not
pub equal_or_not : (m n : ℕ) → (m ≡ n) ⊎ (m ≡ n → ⊥)
equal_or_not m n = grind arith
