-- Which points of the domain the points of a file show, and whose they are.
use Rattle.std.proofs.Common.{◌≡◌, ◌⊎◌, inl, inr, ℕ, ◌+◌, ◌-◌, ◌%◌, ◌<◌, ◌≤◌, Bool, true, false, refl, ap, ◌∙◌, arith}
use Rattle.std.proofs.Math.Nat.{mod_self}
use Rattle.std.proofs.lemmas.Int.{ints}
use Rattle.std.specs.Prelude.{ℤ, pos, ◌-ℤ◌, ◌||◌, unsigned_abs}
use Rattle.std.specs.Int.{int_rem_euclid}
use Rattle.wf_model.specs.declared.plan.Plan.{Plan}
use Rattle.wf_model.specs.Plans.{domain_of, field_of, extra, wrapped}
use Rattle.wf_model.specs.Streams.{one_if}
use Rattle.wf_model.specs.Patches.{split_of, in_span, is_place}
use Rattle.wf_laws.proofs.Bools.{and_both}
use Rattle.wf_laws.proofs.Spans.{span-in}
use Rattle.wf_laws.proofs.Places.{IsRoom, room_of, whole, wrapped-back, range_x, range_y}
use Rattle.wf_laws.proofs.Owners.{each_owner}
use Rattle.wf_held_laws.specs.Slabs.{IsFilePoint, row_of, column_of, FileColumnsArePoints, FileRowsArePoints, EachFilePointIsOfOnePatch}

-- a file has no point more than the domain but in a periodic direction
file-place : (s p : Bool) (a c : ℕ) → 1 ≤ c → c ≤ a + one_if s → (p || in_span (whole (a + extra s p)) (pos c)) ≡ true
file-place s true a c l u = refl
file-place true false a c l u = span-in (whole (a + 1)) (pos c) (omega (arith, ints)) (omega (arith, ints))
file-place false false a c l u = span-in (whole (a + 0)) (pos c) (omega (arith, ints)) (omega (arith, ints))

-- a point of a file is that of its number, or behind the last one the first
file-point : (s p : Bool) (a c : ℕ) → 0 < a → 1 ≤ c → c ≤ a + one_if s →
    ((c ≤ a + extra s p) × (wrapped p (a + extra s p) (pos c) ≡ c)) ⊎ ((c ≡ a + extra s p + 1) × (wrapped p (a + extra s p) (pos c) ≡ 1))
file-point s p a c some l u = elim (le_or_more c (a + extra s p)) [
  | inl h ↦ inl (h, wrapped-back p (a + extra s p) c l h)
  | inr h ↦ inr (behind s p a c some u h)
]
  where
    le_or_more : (m n : ℕ) → (m ≤ n) ⊎ (n < m)
    le_or_more m n = grind arith

    full : (n : ℕ) → 0 < n → wrapped true n (pos (n + 1)) ≡ 1
    full n h =
        let down : pos (n + 1) -ℤ pos 1 ≡ pos n = omega (arith, ints) in
        let none : n % n ≡ 0 = mod_self n in
        ap (λ (z : ℤ). unsigned_abs (int_rem_euclid z (pos n)) + 1) down ∙ ap (λ (m : ℕ). m + 1) none

    behind : (s p : Bool) (a c : ℕ) → 0 < a → c ≤ a + one_if s → a + extra s p < c → (c ≡ a + extra s p + 1) × (wrapped p (a + extra s p) (pos c) ≡ 1)
    behind true true a c some u h =
        let is : c ≡ a + 0 + 1 = omega arith in
        (is, ap (λ (x : ℕ). wrapped true (a + 0) (pos x)) is ∙ full (a + 0) (omega arith))
    behind false true a c some u h = absurd (omega (arith, u, h))
    behind true false a c some u h = absurd (omega (arith, u, h))
    behind false false a c some u h = absurd (omega (arith, u, h))

-- the law on columns
pub columns_are_points : FileColumnsArePoints
columns_are_points plan layout d f i laid is h =
    let room : IsRoom plan (split_of layout) d = room_of plan layout laid d is in
    file-point (field_of plan f).stag_x (domain_of plan d).periodic_x ((domain_of plan d).ide - 1) i (omega (arith, room.some_x, room.room_x)) h.0 h.1

-- the law on rows
pub rows_are_points : FileRowsArePoints
rows_are_points plan layout d f j laid is h =
    let room : IsRoom plan (split_of layout) d = room_of plan layout laid d is in
    file-point (field_of plan f).stag_y (domain_of plan d).periodic_y ((domain_of plan d).jde - 1) j (omega (arith, room.some_y, room.room_y)) h.0 h.1

-- a point of a file is a place
pub file_is_place : (plan : Plan) (d f k j i : ℕ) → IsFilePoint plan d f k j i → is_place plan d f (pos j) (pos i) ≡ true
unfolding is_place
file_is_place plan d f k j i at =
    and_both _ _ (file-place (field_of plan f).stag_y (domain_of plan d).periodic_y ((domain_of plan d).jde - 1) j (at.row).0 (at.row).1)
    (file-place (field_of plan f).stag_x (domain_of plan d).periodic_x ((domain_of plan d).ide - 1) i (at.column).0 (at.column).1)

-- the law on owners
pub one_patch : EachFilePointIsOfOnePatch
one_patch plan layout d f k j i laid is at =
    let room : IsRoom plan (split_of layout) d = room_of plan layout laid d is in
    let place = file_is_place plan d f k j i at in
    each_owner plan layout d f (row_of plan d f j) (column_of plan d f i) laid is (range_y plan (split_of layout) d room f (pos j) (pos i) place) (range_x plan (split_of layout) d room f (pos j) (pos i) place)
