-- Blocks of a length follow one another, and each place lies in one.
use Rattle.std.proofs.Common.{◌≡◌, ℕ, suc, ◌+◌, ◌-◌, ◌*◌, ◌/◌, ◌%◌, ◌<◌, ◌≤◌, ap, subst, inl, inr}
use Rattle.std.proofs.Common.{arith}
use Rattle.std.proofs.Math.Nat.{div-lt_iff_lt-mul, le-div_iff_mul-le, div-mul-le_self}
use Rattle.std.proofs.Math.Nat.{mod-add-div', mod-lt, mul_comm, suc-mul, add-mul, mul-le-mul_right}
use Rattle.std.proofs.lemmas.Bool.{cases_lt}
use Rattle.wf_rect.specs.Blocks.{block_start, IsInBlock, HasPoint, IsTheOne}
use Rattle.wf_rect.specs.Blocks.{BlocksAreDisjointAndComplete}

-- less than one more is at most
lt_suc : {a b : ℕ} → a < suc b → a ≤ b
lt_suc h = omega arith

-- the place i lies in block ((i + 1) * n - 1) / len
in_block :
    (n len i : ℕ) → 0 < n → i < len
    → let p : ℕ = ((i + 1) * n - 1) / len in (p < n) × (p * len / n ≤ i) × (i < (p + 1) * len / n)
in_block n len i some inside =
    let last : ℕ = (i + 1) * n - 1 in
    let many : suc i * n ≤ len * n = mul-le-mul_right n inside in
    let more : (i + 1) * n ≡ i * n + n = omega (arith, add-mul i 1 n) in
    let all : (i + 1) * n ≤ len * n = omega (arith, many, more, suc-mul i n) in
    let long : 0 < len = omega arith in
    let whole : last / len * len ≤ last = div-mul-le_self last len in
    let rest : last % len < len = mod-lt last long in
    let total : last % len + last / len * len ≡ last = mod-add-div' last len in
    let next : (last / len + 1) * len ≡ last / len * len + len =
    omega (arith, add-mul (last / len) 1 len) in
    let swap : len * n ≡ n * len = mul_comm len n in
    let below : last / len * len < suc i * n = omega (arith, whole, more, suc-mul i n) in (
      (div-lt_iff_lt-mul long).1 (omega (arith, all, more, swap)),
      lt_suc ((div-lt_iff_lt-mul {x = last / len * len} {y = suc i} some).1 below),
      (le-div_iff_mul-le some).1 (omega (arith, total, rest, next, more, suc-mul i n)),
    )

-- blocks follow one another
blocks_rise :
    (n len p q : ℕ) → 0 < n → p < q → block_start (p + 1) n len ≤ block_start q n len
blocks_rise n len p q some h =
    let less : suc p * len ≤ q * len = mul-le-mul_right len h in
    let one : (p + 1) * len ≡ suc p * len = ap (λ (k : ℕ). k * len) (omega arith) in
    (le-div_iff_mul-le some).1 (omega (arith, div-mul-le_self ((p + 1) * len) n, less, one))

-- no block ends past the length
pub ends_inside : (n len p : ℕ) → p < n → block_start (p + 1) n len ≤ len
ends_inside n len p h =
    let some : 0 < n = omega arith in
    let many : suc p * len ≤ n * len = mul-le-mul_right len h in
    let one : (p + 1) * len ≡ suc p * len = ap (λ (k : ℕ). k * len) (omega arith) in
    let all : (p + 1) * len < suc len * n =
    omega (arith, many, one, mul_comm n len, suc-mul len n) in
    lt_suc ((div-lt_iff_lt-mul {x = (p + 1) * len} {y = suc len} some).1 all)

-- two blocks that have one place are one
no_other :
    (n len i p q : ℕ) → 0 < n → IsInBlock p n len i → IsInBlock q n len i → q ≡ p
no_other n len i p q some h k =
    elim (cases_lt q p) [
      | inl less ↦ absurd (let up = blocks_rise n len q p some less in omega (arith, h.0, k.1))
      | inr at_least ↦ elim (cases_lt p q) [
        | inl less ↦ absurd (let up = blocks_rise n len p q some less in omega (arith, h.1, k.0))
        | inr at_most ↦ omega arith
      ]
    ]

-- the block of a place has it, and no other one does
pub the_block :
    (n len i : ℕ) → 0 < n → i < len
    → IsTheOne n (λ q. IsInBlock q n len i) (((i + 1) * n - 1) / len)
the_block n len i some inside =
    let here = in_block n len i some inside in
    record {
      below = here.0;
      passes = (here.1, here.2);
      alone = λ q lt k. no_other n len i _ q some (here.1, here.2) k;
    }

-- point i is place i - 1, and lies in block (i * n - 1) / len
pub the_block_of_point :
    (n len i : ℕ) → 0 < n → (1 ≤ i) × (i ≤ len)
    → IsTheOne n (λ q. HasPoint q n len i) ((i * n - 1) / len)
the_block_of_point n len i some inside =
    let low : 1 ≤ i = inside.0 in
    let high : i ≤ len = inside.1 in
    let one = the_block n len (i - 1) some (omega (arith, low, high)) in
    let is : ((i - 1 + 1) * n - 1) / len ≡ (i * n - 1) / len =
    ap (λ (k : ℕ). (k * n - 1) / len) (omega (arith, low)) in
    subst (IsTheOne n (λ q. HasPoint q n len i)) is (record {
      below = one.below;
      passes = (omega (arith, low, one.passes.0), omega (arith, low, one.passes.1));
      alone = λ q lt h. one.alone q lt (omega (arith, low, h.0), omega (arith, low, h.1));
    })

pub blocks_are_disjoint_and_complete : BlocksAreDisjointAndComplete
blocks_are_disjoint_and_complete n len i some inside = (_, the_block n len i some inside)
