-- The numbers of the demo's expression.
use Rattle.std.proofs.Common.{◌≡◌, ℕ, zero, suc, ◌+◌, ◌*◌, ◌-◌, ◌<◌, Bool, true, false, refl, arith, Some}
use Rattle.std.proofs.Math.IntN.{pos-*ℤ-pos}
use Rattle.std.proofs.lemmas.Bool.Decides.{nat_tests}
use Rattle.std.specs.Prelude.{pos, negsuc, ◌+ℤ◌, ◌*ℤ◌, ◌^◌, nat_lt, if◌then◌else◌}
use Rattle.std.specs.Int.{int_div_euclid}
use Rattle.wf_model.specs.declared.expr.Expr.{fold-roll-Expr}
use Rattle.wf_model.specs.Numbers.{and_then, of_both, in_i64, in_i32}
use Rattle.wf_model.specs.Value.{Sight, Answers, number_of}
use Rattle.wf_model.specs.DemoCase.{demo_expr}
use Rattle.wf_model.specs.Demo.{is_inner, weighted, demo_value}

-- what the demo's expression is
pub demo_number : (m : Answers) (s : Sight) → number_of m s demo_expr ≡
    and_then (of_both (λ x y. in_i64 (x +ℤ y)) (of_both (λ x y. in_i64 (x +ℤ y)) (of_both (λ x y. in_i64 (x +ℤ y)) (of_both (λ x y. in_i64 (x +ℤ y))
    (of_both (λ x y. in_i64 (x *ℤ y)) (Some (pos 4)) (in_i64 (s.read 0 (pos 0) (pos 0) (pos 0)))) (in_i64 (s.read 0 (negsuc 0) (pos 0) (pos 0))))
    (in_i64 (s.read 0 (pos 1) (pos 0) (pos 0)))) (in_i64 (s.read 0 (pos 0) (pos 0) (negsuc 0)))) (in_i64 (s.read 0 (pos 0) (pos 0) (pos 1))))
    (λ x. in_i64 (int_div_euclid x (pos 8)))
unfolding number_of
demo_number m s = simp fold-roll-Expr refl

-- small numbers fit
pub in_i64-small : (n : ℕ) → n < 1000 → in_i64 (pos n) ≡ Some (pos n)
in_i64-small n h = let t : nat_lt n (2 ^ 63) ≡ true = grind (arith, nat_tests) in rw t refl

pub in_i32-small : (n : ℕ) → n < 1000 → in_i32 (pos n) ≡ Some (pos n)
in_i32-small n h = let t : nat_lt n (2 ^ 31) ≡ true = grind (arith, nat_tests) in rw t refl

-- the demo's expression of numbers below 100
pub weighted-number : (c w e s n : ℕ) → c < 100 → w < 100 → e < 100 → s < 100 → n < 100 →
    and_then (of_both (λ x y. in_i64 (x +ℤ y)) (of_both (λ x y. in_i64 (x +ℤ y)) (of_both (λ x y. in_i64 (x +ℤ y)) (of_both (λ x y. in_i64 (x +ℤ y))
    (of_both (λ x y. in_i64 (x *ℤ y)) (Some (pos 4)) (in_i64 (pos c))) (in_i64 (pos w)))
    (in_i64 (pos e))) (in_i64 (pos s))) (in_i64 (pos n)))
    (λ x. in_i64 (int_div_euclid x (pos 8))) ≡ Some (pos (weighted c w e s n))
weighted-number c w e s n hc hw he hs hn =
    rw (in_i64-small c (omega arith), in_i64-small w (omega arith), in_i64-small e (omega arith), in_i64-small s (omega arith), in_i64-small n (omega arith))
    (rw (pos-*ℤ-pos 4 c, in_i64-small (4 * c) (omega arith), in_i64-small (4 * c + w) (omega arith), in_i64-small (4 * c + w + e) (omega arith), in_i64-small (4 * c + w + e + s) (omega arith), in_i64-small (4 * c + w + e + s + n) (omega arith))
    (in_i64-small (weighted c w e s n) (omega arith)))

-- a choice of two stays below what both stay below
chosen-below : (b : Bool) (x y limit : ℕ) → x < limit → y < limit → (if b then x else y) < limit
chosen-below true x y limit h k = h
chosen-below false x y limit h k = k

-- and so does what the expression makes of five
pub weighted-small : (c w e s n : ℕ) → c < 100 → w < 100 → e < 100 → s < 100 → n < 100 → weighted c w e s n < 100
weighted-small c w e s n hc hw he hs hn = omega arith

-- all values stay from 0 to 99
pub demo_value-small : (nx ny n j i : ℕ) → demo_value nx ny n j i < 100
unfolding demo_value
demo_value-small nx ny zero j i = omega arith
demo_value-small nx ny (suc n) j i =
    chosen-below (is_inner nx ny j i) _ _ 100
    (weighted-small _ _ _ _ _ (demo_value-small nx ny n j i) (demo_value-small nx ny n j (i - 1)) (demo_value-small nx ny n j (i + 1)) (demo_value-small nx ny n (j - 1) i) (demo_value-small nx ny n (j + 1) i))
    (demo_value-small nx ny n j i)
