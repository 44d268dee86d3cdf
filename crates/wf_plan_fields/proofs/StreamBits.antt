-- A number made bit by bit.
use Rattle.std.proofs.Common.{◌≡◌, ◌∙◌, ap, ℕ, zero, suc, ◌+◌, ◌*◌, ◌^◌, ◌<◌, ◌≤◌, [], ◌∷◌, ◌++◌, arith, sum_by}
use Rattle.std.specs.List.{range_with_len}
use Rattle.std.proofs.lemmas.Nat.{pow-add}
use Rattle.std.proofs.lemmas.List.Sums.{sum_by-append}

range-more : (a n : ℕ) → range_with_len a (suc n) ≡ range_with_len a n ++ (a + n) ∷ []
range-more a zero = let e : a ≡ a + 0 = omega arith in ap (λ x. x ∷ []) e
range-more a (suc n) =
    let e : a + 1 + n ≡ a + suc n = omega arith in
    ap (λ r. a ∷ r) (range-more (a + 1) n ∙ ap (λ x. range_with_len (a + 1) n ++ x ∷ []) e)

-- one number more
pub sum_more : (f : ℕ → ℕ) (n : ℕ) → sum_by f (range_with_len 0 (n + 1)) ≡ sum_by f (range_with_len 0 n) + f n
sum_more f n =
    let next : n + 1 ≡ suc n = omega arith in
    let here : 0 + n ≡ n = omega arith in
    let last : 0 + f n ≡ f n = omega arith in
    ap (λ k. sum_by f (range_with_len 0 k)) next ∙ ap (sum_by f) (range-more 0 n ∙ ap (λ x. range_with_len 0 n ++ x ∷ []) here)
    ∙ sum_by-append f (range_with_len 0 n) (n ∷ []) ∙ ap (λ x. sum_by f (range_with_len 0 n) + x) last

-- a bit above the others
pub power_more : (bits bit n : ℕ) → bits < 2 ^ n → bit ≤ 2 ^ n → bits + bit < 2 ^ (n + 1)
power_more bits bit n below most =
    let twice : 2 ^ (n + 1) ≡ 2 ^ n * 2 = pow-add 2 n 1 in
    omega arith
