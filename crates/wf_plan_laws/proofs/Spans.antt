-- A point of a region lies in its spans, and moved by a read's offset it stays where the tests pass.
use Rattle.std.proofs.Common.{◌≡◌, ℕ, ◌+◌, ◌-◌, ◌≤◌, Bool, true, false, refl, sym, subst, arith, if◌then◌else◌}
use Rattle.std.specs.Prelude.{ℤ, pos, ◌+ℤ◌, ◌≤ℤ◌, ◌<ℤ◌, int_lt, int_le, unsigned_abs, ◌&&◌, ◌||◌, nat_le}
use Rattle.std.proofs.lemmas.Int.{ints}
use Rattle.std.proofs.lemmas.Bool.{and_parts, and_from, or_parts, leb-true}
use Rattle.wf_model.specs.Plans.{is_within, is_inside}
use Rattle.wf_model.specs.Patches.{Span, in_span}
use Rattle.wf_model.specs.PlanTests.{region_span, has_points, leaves, read_leaves}

-- a number lies in a span
pub record Lies (s : Span) (c : ℤ) : Type 0 where
  pub low : s.low ≤ℤ c
  pub high : c <ℤ s.high

-- so the span isn't empty
pub some_points : (s : Span) (c : ℤ) → Lies s c → has_points s ≡ true
some_points s c h =
    let low : s.low ≤ℤ c = h.low in
    let high : c <ℤ s.high = h.high in
    grind (arith, ints)

-- ---- a point of the region

pub within : (low high x : ℕ) → is_within low high x ≡ true → (low ≤ x) × (x ≤ high)
within low high x h = let p = and_parts (nat_le low x) (nat_le x high) h in (leb-true low x p.0, leb-true x high p.1)

pub inside : (periodic : Bool) (margin n x : ℕ) → is_inside periodic margin n x ≡ true → Lies (region_span periodic margin n) (pos x)
inside true margin n x h = let w = within 1 n x h in record { low = omega (arith, ints, w.0); high = omega (arith, ints, w.1) }
inside false margin n x h =
    let w = within (margin + 1) (n - margin) x h in
    let low : margin + 1 ≤ x = w.0 in
    let high : x + margin ≤ n = omega (arith, w.0, w.1) in
    record { low = omega (arith, ints, low); high = omega (arith, ints, high) }

-- ---- moved

not_below : (a b : ℤ) → int_lt a b ≡ false → b ≤ℤ a
not_below a b e = grind (arith, ints)

-- a span that doesn't leave 1 to n has its numbers there
pub kept : (s : Span) (by n c : ℤ) → leaves s by n ≡ false → Lies s c → (pos 1 ≤ℤ (c +ℤ by)) × ((c +ℤ by) ≤ℤ n)
kept s by n c e h =
    let p = or_parts (int_lt (s.low +ℤ by) (pos 1)) (int_lt (n +ℤ pos 1) (s.high +ℤ by)) e in
    let first : pos 1 ≤ℤ (s.low +ℤ by) = not_below (s.low +ℤ by) (pos 1) p.0 in
    let last : (s.high +ℤ by) ≤ℤ (n +ℤ pos 1) = not_below (n +ℤ pos 1) (s.high +ℤ by) p.1 in
    let low : s.low ≤ℤ c = h.low in
    let high : c <ℤ s.high = h.high in
    (omega (arith, ints, first, low), omega (arith, ints, last, high))

is_at_most : (a b : ℤ) → a ≤ℤ b → int_le a b ≡ true
is_at_most a b h = grind (arith, ints)

is_less : (a b : ℤ) → a <ℤ b → int_lt a b ≡ true
is_less a b h = grind (arith, ints)

-- a read stays in a direction
pub stays : (periodic : Bool) (s : Span) (by : ℤ) (n : ℕ) (c : ℤ) → read_leaves periodic s by n ≡ false → Lies s c
    → (periodic || in_span (record { low = pos 1; high = pos (n + 1) }) (c +ℤ by)) ≡ true
stays true s by n c e h = refl
stays false s by n c e h =
    let k = kept s by (pos n) c e h in
    let last : (c +ℤ by) ≤ℤ pos n = k.1 in
    let below : (c +ℤ by) <ℤ pos (n + 1) = omega (arith, ints, last) in
    and_from (int_le (pos 1) (c +ℤ by)) (int_lt (c +ℤ by) (pos (n + 1))) (is_at_most (pos 1) (c +ℤ by) k.0) (is_less (c +ℤ by) (pos (n + 1)) below)

-- a level that is read
pub level_kept : (c : ℤ) (n : ℕ) → pos 1 ≤ℤ c → c ≤ℤ pos n → (1 ≤ unsigned_abs c) × (unsigned_abs c ≤ n)
level_kept c n low high = (omega (arith, ints), omega (arith, ints))

-- the levels of a phase, all of them or named ones
pub level_lies : (whole : Bool) (top from to k : ℕ) (z : ℤ) → z ≡ pos top → (if whole then is_within 1 top k else is_within from to k) ≡ true
    → Lies (if whole then record { low = pos 1; high = z +ℤ pos 1 } else record { low = pos from; high = pos (to + 1) }) (pos k)
level_lies true top from to k z same h =
    let w = within 1 top k h in
    subst (λ (n : ℤ). Lies (record { low = pos 1; high = n +ℤ pos 1 }) (pos k)) (sym same) (record { low = omega (arith, ints, w.0); high = omega (arith, ints, w.1) })
level_lies false top from to k z same h =
    let w = within from to k h in record { low = omega (arith, ints, w.0); high = omega (arith, ints, w.1) }

-- a read without a z letter is of level 1, another one keeps within the levels
pub level_read : (has_z : Bool) (s : Span) (by : ℤ) (n : ℕ) (z c : ℤ) → z ≡ pos n → 1 ≤ n → (has_z && leaves s by z) ≡ false → Lies s c
    → (1 ≤ (if has_z then unsigned_abs (c +ℤ by) else 1)) × ((if has_z then unsigned_abs (c +ℤ by) else 1) ≤ n)
level_read true s by n z c same some e h =
    let k = kept s by z c e h in
    level_kept (c +ℤ by) n k.0 (subst (λ (m : ℤ). (c +ℤ by) ≤ℤ m) same k.1)
level_read false s by n z c same some e h = (omega arith, some)

pub above_ground : (has_z : Bool) (s : Span) (by z c : ℤ) → (has_z && leaves s by z) ≡ false → Lies s c → has_z ≡ true → pos 1 ≤ℤ (c +ℤ by)
above_ground true s by z c e h t = (kept s by z c e h).0
above_ground false s by z c e h t = cc

pub not_above : (a : ℤ) (n m : ℕ) → a ≡ pos n → int_lt a (pos m) ≡ false → m ≤ n
not_above a n m same e =
    let low : pos m ≤ℤ a = not_below a (pos m) e in
    let at : pos m ≤ℤ pos n = subst (λ (z : ℤ). pos m ≤ℤ z) same low in
    omega (arith, ints, at)
