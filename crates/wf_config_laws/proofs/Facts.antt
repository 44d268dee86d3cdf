-- What the tests of domains say where they pass, over plain numbers.
use Rattle.std.proofs.Common.{◌≡◌, ℕ, ◌+◌, ◌*◌, ◌/◌, ◌%◌, ◌<◌, ◌≤◌, ◌==◌, nat_lt, Bool, true, false, not, ◌&&◌, ◌||◌, ℤ, pos, negsuc, ◌-ℤ◌, ◌≤ℤ◌, IsFalse, if◌then◌else◌, refl, ap, arith}
use Rattle.std.specs.Prelude.{int_lt}
use Rattle.std.proofs.lemmas.Bool.Decides.{nat_tests}
use Rattle.std.proofs.Math.Nat.{div-le_self, div-mul-le_self}
use Rattle.std.proofs.lemmas.Nat.{div-add-mod'}
use Rattle.wf_model.specs.Ranges.{Within}
use Rattle.wf_model.specs.PlanTests.{at_edge, is_multiple, is_zero}

pub parent_facts : (p d : ℕ) → ((p == 0) || not (nat_lt p d)) ≡ false → (1 ≤ p) × (p < d)
parent_facts p d e = (grind (arith, nat_tests), grind (arith, nat_tests))

pub odd_fact : (r : ℕ) → (r % 2 == 0) ≡ false → r % 2 ≡ 1
odd_fact r e = grind (arith, nat_tests)

pub multiple_fact : (n r : ℕ) → not (is_multiple n r) ≡ false → n % r ≡ 0
multiple_fact n r e = grind (arith, nat_tests)

pub size_facts : (m n r k l : ℕ) → not (is_multiple m r && is_multiple n r && (k == l)) ≡ false → (m % r ≡ 0) × (n % r ≡ 0) × (k ≡ l)
size_facts m n r k l e = (grind (arith, nat_tests), grind (arith, nat_tests), grind (arith, nat_tests))

pub neither_of : (a b : Bool) → (a || b) ≡ false → (a ≡ false) × (b ≡ false)
neither_of true b e = cc
neither_of false b e = (refl, e)

pub edge_facts : (start cells points : ℕ) → at_edge start cells points ≡ false → (2 ≤ start) × (start + cells ≤ points)
edge_facts start cells points e = (grind (arith, nat_tests), grind (arith, nat_tests))

pub end_fact : (n m : ℕ) → nat_lt n m ≡ false → m ≤ n
end_fact n m e = grind (arith, nat_tests)

zero_fact : (t : ℤ) → not (is_zero t) ≡ false → t ≡ pos 0
zero_fact (pos n) e = ap (λ m. pos m) (grind (arith, nat_tests))
zero_fact (negsuc n) e = cc

not_less : (s t : ℤ) → int_lt s t ≡ false → t ≤ℤ s
not_less s t e = grind (arith, nat_tests)

pub start_facts : (rest counted_c counted_p t : ℤ) (restart : Bool)
    → (not (is_zero rest) || (int_lt counted_c counted_p || (not restart && int_lt t (pos 0)))) ≡ false
    → (rest ≡ pos 0) × (counted_p ≤ℤ counted_c) × (IsFalse restart → pos 0 ≤ℤ t)
start_facts rest counted_c counted_p t restart e =
    let first = neither_of (not (is_zero rest)) (int_lt counted_c counted_p || (not restart && int_lt t (pos 0))) e in
    let second = neither_of (int_lt counted_c counted_p) (not restart && int_lt t (pos 0)) first.1 in
    (zero_fact rest first.0, not_less counted_c counted_p second.0, λ none. not_less t (pos 0) (behind restart none second.1))
  where
    behind : (b : Bool) → IsFalse b → (not b && int_lt t (pos 0)) ≡ false → int_lt t (pos 0) ≡ false
    behind true h e = cc
    behind false h e = e

-- ---- numbers of nests

pub nest_is : {A : Type 0} (c : ℕ) (first own : A) → 1 < c → (if c == 1 then first else own) ≡ own
nest_is c first own h = of (c == 1) (grind (arith, nat_tests))
  where
    of : (b : Bool) → b ≡ false → (if b then first else own) ≡ own
    of true e = cc
    of false e = refl

pub either_within : (b : Bool) (low high m n : ℕ) → Within low high m → Within low high n → Within low high (if b then m else n)
either_within true low high m n p q = p
either_within false low high m n p q = q

-- a whole quotient
pub whole_quotient : (s r : ℕ) → s % r ≡ 0 → s / r * r ≡ s
whole_quotient s r e = omega (arith, e, div-add-mod' s r)

-- some, as it gives some by the ratio
pub quotient_within : (s r : ℕ) → Within 1 3600 s → s % r ≡ 0 → Within 1 3600 (s / r)
quotient_within s r h e = (some (s / r) (whole_quotient s r e), omega (arith, h.1, div-le_self s r))
  where
    some : (q : ℕ) → q * r ≡ s → 1 ≤ q
    some q is = grind (arith, is, h.0)

pub steps_fit : (start run t last : ℕ) → start + run ≤ last → start + run / t * t ≤ last
steps_fit start run t last h = omega (arith, h, div-mul-le_self run t)

pub no_seconds : (n : ℕ) → pos n -ℤ pos n ≡ pos 0
no_seconds n = grind arith
