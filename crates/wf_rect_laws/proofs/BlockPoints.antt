-- A block of a run has a point where the block of the length has it.
use Rattle.std.proofs.Common.{◌≡◌, ◌⊎◌, inl, inr, ⊎_elim, ℕ, ◌+◌, ◌*◌, ◌/◌, ◌<◌, ◌≤◌, min, false}
use Rattle.std.proofs.Common.{true, arith}
use Rattle.std.proofs.lemmas.Int.{ints}
use Rattle.std.specs.Prelude.{pos, ◌↔◌, ◌==◌, if◌then◌else◌}
use Rattle.wf_model.specs.Patches.{in_span, block}
use Rattle.wf_laws.proofs.Bools.{split_bool}
use Rattle.wf_laws.proofs.Spans.{span-in, span-low, span-high, block_last, block_low}
use Rattle.wf_laws.proofs.Spans.{more_if, none_if}
use Rattle.wf_rect.specs.Blocks.{HasPoint}

-- the end e of a block, with m extra points, over a length with more of them
abbrev IsEnd : ℕ → ℕ → ℕ → ℕ → Type 0
IsEnd e m len more = ((e < len) × (m ≡ 0)) ⊎ ((e ≡ len) × (m ≡ more))

-- a point behind the start and up to the end, or the last point in place of an extra one
within :
    (s e m len more c : ℕ) → IsEnd e m len more → s < len → s + 1 ≤ c → c < e + 1 + m
    → (s < min c len) × (min c len ≤ e)
within s e m len more c end begin low high =
    ⊎_elim (λ h. (omega (arith, h.0, h.1), omega (arith, h.0, h.1)))
    (λ h. (omega (arith, h.0, h.1), omega (arith, h.0, h.1))) end

-- and the other way round
without :
    (s e m len more c : ℕ) → IsEnd e m len more → c ≤ len + more → s < min c len
    → min c len ≤ e → (s + 1 ≤ c) × (c < e + 1 + m)
without s e m len more c end inside low high =
    ⊎_elim (λ h. (omega (arith, h.0, h.1), omega (arith, h.0, h.1)))
    (λ h. (omega (arith, h.0, h.1), omega (arith, h.0, h.1))) end

-- a block that is not the last has one behind it
one_behind : (p n : ℕ) → p < n → (p + 1 == n) ≡ false → p + 1 < n
one_behind p n below before = grind arith

-- the ends of blocks over a length that has a point for each
end_of :
    (p n len more : ℕ) → p < n → 0 < len
    → IsEnd ((p + 1) * len / n) (if p + 1 == n then more else 0) len more
end_of p n len more below long =
    let some : 0 < n = omega (arith, below) in
    ⊎_elim (λ last. inr (block_last p n len some last, more_if (p + 1 == n) more last))
    (λ before. inl (
      block_low (p + 1) n len some long (one_behind p n below before),
      none_if (p + 1 == n) more before,
    ))
    (split_bool (p + 1 == n))

-- the span of a block has a point exactly where the block has it, or the last point for an extra
pub block_has :
    (p n len more c : ℕ) → p < n → n ≤ len → (1 ≤ c) × (c ≤ len + more)
    → (in_span (block p n len more) (pos c) ≡ true) ↔ HasPoint p n len (min c len)
block_has p n len more c below room inside =
    let long : 0 < len = omega (arith, below, room) in
    let begin : p * len / n < len = block_low p n len (omega (arith, below)) long below in
    let end = end_of p n len more below long in
    let b = block p n len more in (
      λ h. within _ _ _ len more c end begin (omega (arith, ints, span-low b (pos c) h))
          (omega (arith, ints, span-high b (pos c) h)),
      λ h.
          let k = without _ _ _ len more c end inside.1 h.0 h.1 in
          span-in b (pos c) (omega (arith, ints, k.0)) (omega (arith, ints, k.1)),
    )
