-- Cells in rows and columns: their places, writes, and means of neighbours.
use Rattle.std.proofs.Common.{◌≡◌, ℕ, ◌+◌, ◌-◌, ◌*◌, ◌<◌, ◌≤◌, List, length, set, get_or, ℤ, pos, unsigned_abs, refl, sym, ap, subst, arith, Bool, true, false, cond, to_z}
use Rattle.std.proofs.lemmas.List.{get_or-set_same, get_or-set_other}
use Rattle.std.proofs.lemmas.Nat.{same_from_place, mul-add-lt}
use Rattle.std.proofs.lemmas.Bool.Decides.{nat_tests}
use Rattle.std.proofs.lemmas.Int.{to_z_pos}
use Rattle.std.specs.Int.{w32}
use Rattle.wf_top.specs.Cells.{cell, mean_at, next_at, is_within, AreSmall}

-- a place within the rows
pub place_within : (w r c h : ℕ) → r < h → c < w → r * w + c < h * w
place_within w r c h p q = omega (arith, mul-add-lt r w c h p q)

-- the cell that is written
pub cell-set_same : (values : List ℤ) (w r c : ℕ) (z : ℤ) → r * w + c < length values → cell (set values (r * w + c) z) w r c ≡ z
cell-set_same values w r c z h = get_or-set_same values (r * w + c) z (pos 0) h

-- a cell of another row or column
pub cell-set_other : (values : List ℤ) (w r c s q : ℕ) (z : ℤ) → c < w → q < w → (s ≡ r → q ≡ c → ⊥) → cell (set values (r * w + c) z) w s q ≡ cell values w s q
cell-set_other values w r c s q z hc hq h =
    get_or-set_other values (r * w + c) (s * w + q) z (pos 0) (λ e. let same = same_from_place s q r c w hq hc e in h same.0 same.1)

row_before : (w r : ℕ) → 0 < r → (r - 1) * w + w ≡ r * w
row_before w r p = let e : r ≡ (r - 1) + 1 = omega arith in let d : ((r - 1) + 1) * w ≡ r * w = ap (λ k. k * w) (sym e) in omega (arith, d)

-- the places beside a cell inside
pub record Beside (w r c : ℕ) : Type 0 where
  pub west : (r * w + c) - 1 ≡ r * w + (c - 1)
  pub east : (r * w + c) + 1 ≡ r * w + (c + 1)
  pub south : (r * w + c) - w ≡ (r - 1) * w + c
  pub north : (r * w + c) + w ≡ (r + 1) * w + c
  pub from_south : w ≤ r * w + c
  pub north_within : (r + 1) * w + c < (r + 2) * w

pub beside : (w r c : ℕ) → 0 < r → 0 < c → c < w → Beside w r c
beside w r c p q h = record {
  west = omega arith;
  east = omega arith;
  south = omega (arith, row_before w r p);
  north = omega arith;
  from_south = omega (arith, row_before w r p);
  north_within = place_within w (r + 1) c (r + 2) (omega arith) h;
}

-- a number at a place that has another name
pub at_place : (values : List ℤ) (a b : ℕ) → a ≡ b → unsigned_abs (get_or values a (pos 0)) ≡ unsigned_abs (get_or values b (pos 0))
at_place values a b e = ap (λ k. unsigned_abs (get_or values k (pos 0))) e

-- the numbers that a mean is made of are small
pub record SmallBeside (values : List ℤ) (w r c : ℕ) : Type 0 where
  pub here : unsigned_abs (get_or values (r * w + c) (pos 0)) < 100
  pub west : unsigned_abs (get_or values ((r * w + c) - 1) (pos 0)) < 100
  pub east : unsigned_abs (get_or values ((r * w + c) + 1) (pos 0)) < 100
  pub south : unsigned_abs (get_or values ((r * w + c) - w) (pos 0)) < 100
  pub north : unsigned_abs (get_or values ((r * w + c) + w) (pos 0)) < 100

abbrev IsSmallAt : List ℤ → ℕ → Type 0
IsSmallAt values k = unsigned_abs (get_or values k (pos 0)) < 100

pub small_beside : (values : List ℤ) (w r c : ℕ) → 0 < r → 0 < c → c + 1 < w → AreSmall values w (r + 2) → SmallBeside values w r c
small_beside values w r c p q h small =
    let b = beside w r c p q (omega arith) in
    record {
      here = small r c (omega arith) (omega arith);
      west = subst (IsSmallAt values) (sym b.west) (small r (c - 1) (omega arith) (omega arith));
      east = subst (IsSmallAt values) (sym b.east) (small r (c + 1) (omega arith) h);
      south = subst (IsSmallAt values) (sym b.south) (small (r - 1) c (omega arith) (omega arith));
      north = subst (IsSmallAt values) (sym b.north) (small (r + 1) c (omega arith) (omega arith));
    }

-- what the test says
pub within_facts : (w h r c : ℕ) → is_within w h r c ≡ true → (0 < c) × (c + 1 < w) × (0 < r) × (r + 1 < h)
within_facts w h r c e = (grind (arith, nat_tests), grind (arith, nat_tests), grind (arith, nat_tests), grind (arith, nat_tests))

next_of : (b : Bool) (values : List ℤ) (w r c : ℕ) → (b ≡ true → ⊥) → cond b (pos (mean_at values w r c)) (cell values w r c) ≡ cell values w r c
next_of true values w r c out = absurd (out refl)
next_of false values w r c out = refl

-- a cell inside after a step
pub next_inside : (values : List ℤ) (w h r c : ℕ) → 0 < c → c + 1 < w → 0 < r → r + 1 < h → next_at values w h r c ≡ pos (mean_at values w r c)
next_inside values w h r c p q s t =
    let inside : is_within w h r c ≡ true = grind (arith, nat_tests) in rw inside refl

-- a cell at the border after a step
pub next_border : (values : List ℤ) (w h r c : ℕ) → (0 < c → c + 1 < w → 0 < r → r + 1 < h → ⊥) → next_at values w h r c ≡ cell values w r c
next_border values w h r c out = next_of (is_within w h r c) values w r c (λ e. out (within_facts w h r c e).0 (within_facts w h r c e).1 (within_facts w h r c e).2 (within_facts w h r c e).3)

-- ---- rows after one write

-- a number below one hundred as a signed number
pub signed_small : (n : ℕ) → n < 100 → to_z w32 n ≡ pos n
signed_small n h = to_z_pos w32 n (omega arith)
