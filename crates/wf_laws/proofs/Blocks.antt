-- Blocks of a length follow one another, and each place lies in one.
use Rattle.std.proofs.Common.{◌≡◌, ℕ, suc, ◌+◌, ◌-◌, ◌*◌, ◌/◌, ◌%◌, ◌<◌, ◌≤◌, ap, arith}
use Rattle.std.proofs.Math.Nat.{div-lt_iff_lt-mul, le-div_iff_mul-le, mod-add-div', mul_comm, mod-lt, div-mul-le_self, suc-mul, add-mul, mul-le-mul_right}

-- less than one more is at most
lt_suc : {a b : ℕ} → a < suc b → a ≤ b
lt_suc h = omega arith

-- the block of place i, counted from 0, is the ((i + 1) * n - 1) / len-th
pub in_block : (n len i : ℕ) → 0 < n → i < len →
    let p : ℕ = ((i + 1) * n - 1) / len in (p < n) × (p * len / n ≤ i) × (i < (p + 1) * len / n)
in_block n len i hn hi =
    let many : suc i * n ≤ len * n = mul-le-mul_right n hi in
    let more : (i + 1) * n ≡ i * n + n = omega (arith, add-mul i 1 n) in
    let all : (i + 1) * n ≤ len * n = omega (arith, many, more, suc-mul i n) in
    let long : 0 < len = omega arith in
    let whole : ((i + 1) * n - 1) / len * len ≤ (i + 1) * n - 1 = div-mul-le_self ((i + 1) * n - 1) len in
    let rest : ((i + 1) * n - 1) % len < len = mod-lt ((i + 1) * n - 1) long in
    let sum : ((i + 1) * n - 1) % len + ((i + 1) * n - 1) / len * len ≡ (i + 1) * n - 1 = mod-add-div' ((i + 1) * n - 1) len in
    let next : (((i + 1) * n - 1) / len + 1) * len ≡ ((i + 1) * n - 1) / len * len + len = omega (arith, add-mul (((i + 1) * n - 1) / len) 1 len) in
    let swap : len * n ≡ n * len = mul_comm len n in (
      (div-lt_iff_lt-mul long).1 (omega (arith, all, more, swap)),
      lt_suc ((div-lt_iff_lt-mul {x = ((i + 1) * n - 1) / len * len} {y = suc i} hn).1 (omega (arith, whole, more, suc-mul i n))),
      (le-div_iff_mul-le hn).1 (omega (arith, sum, rest, next, more, suc-mul i n)),
    )

-- blocks follow one another
pub blocks_rise : (n len p q : ℕ) → 0 < n → p < q → (p + 1) * len / n ≤ q * len / n
blocks_rise n len p q hn h =
    let less : suc p * len ≤ q * len = mul-le-mul_right len h in
    let one : (p + 1) * len ≡ suc p * len = ap (λ (k : ℕ). k * len) (omega arith) in
    (le-div_iff_mul-le hn).1 (omega (arith, div-mul-le_self ((p + 1) * len) n, less, one))
