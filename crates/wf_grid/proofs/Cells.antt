-- The points of a level in the order of its list: what stands at a point's place, and the point of a place.
use Rattle.std.proofs.Common.{◌≡◌, ℕ, zero, suc, ◌+◌, ◌-◌, ◌*◌, ◌/◌, ◌%◌, ◌<◌, ◌≤◌, List, [], ◌∷◌, Bool, true, false, map, length, get_or, refl, ap, ◌∙◌, arith}
use Rattle.std.proofs.Math.Nat.{suc-mul, add-mul, mul_assoc, mul-le-mul_right, div-lt_iff_lt-mul, mod-lt, mod-add-div'}
use Rattle.std.proofs.lemmas.List.FromFn.{length-map-range_with_len, get_or-map-range_with_len}
use Rattle.std.specs.Prelude.{flat_map, nat_le}
use Rattle.wf_model.specs.Plans.{up_to}
use Rattle.wf_laws.proofs.Listing.{length-rows, get_or-rows}
use Rattle.wf_grid.specs.Levels.{place_in, IsPlaceIn}

module _ {X : Type 0} (F : ℕ → ℕ → ℕ → X) (zs ys xs : ℕ) where
  -- a row
  row : ℕ → ℕ → List X
  row k j = map (λ i. F k j i) (up_to xs)

  -- a plane
  plane : ℕ → List X
  unfolding row
  plane k = flat_map (row k) (up_to ys)

  -- all of them, in order k, j, i
  unfoldable pub cells : List X
  cells = flat_map (λ k. flat_map (λ j. map (λ i. F k j i) (up_to xs)) (up_to ys)) (up_to zs)

  length-row : (k j : ℕ) → length (row k j) ≡ xs
  unfolding row
  length-row k j = length-map-range_with_len (λ i. F k j i) 1 xs

  length-plane : (k : ℕ) → length (plane k) ≡ ys * xs
  unfolding plane
  length-plane k = length-rows (row k) xs (length-row k) 1 ys

  pub length-cells : length cells ≡ zs * (ys * xs)
  unfolding cells plane row
  length-cells = length-rows plane (ys * xs) length-plane 1 zs

  -- what stands at a place, by planes and rows from 0
  at-cells : (d : X) (k j i : ℕ) → k < zs → j < ys → i < xs → get_or cells (k * (ys * xs) + (j * xs + i)) d ≡ F (1 + k) (1 + j) (1 + i)
  unfolding cells plane row
  at-cells d k j i p q r =
      get_or-rows plane (ys * xs) length-plane 1 zs k (j * xs + i) d p (omega (arith, mul-le-mul_right xs q, suc-mul j xs))
      ∙ get_or-rows (row (1 + k)) xs (length-row (1 + k)) 1 ys j i d q r
      ∙ get_or-map-range_with_len (λ m. F (1 + k) (1 + j) m) 1 xs i (1 + i) d r refl

  -- a place by planes and rows
  place_is : (a b c : ℕ) → (a * ys + b) * xs + c ≡ a * (ys * xs) + (b * xs + c)
  place_is a b c = omega (arith, add-mul (a * ys) b xs, mul_assoc a ys xs)

  back : (a : ℕ) → 1 ≤ a → 1 + (a - 1) ≡ a
  back a h = omega arith

  -- what stands at the place of a point
  pub get_or-cells : (d : X) (k j i : ℕ) → IsPlaceIn zs ys xs k j i → get_or cells (place_in ys xs k j i) d ≡ F k j i
  get_or-cells d k j i h =
      ap (λ (m : ℕ). get_or cells m d) (place_is (k - 1) (j - 1) (i - 1))
      ∙ at-cells d (k - 1) (j - 1) (i - 1) (omega (arith, h.in_z.0, h.in_z.1)) (omega (arith, h.in_y.0, h.in_y.1)) (omega (arith, h.in_x.0, h.in_x.1))
      ∙ (λ n. F (back k h.in_z.0 n) (back j h.in_y.0 n) (back i h.in_x.0 n))

-- the point of a place
pub record PointOf (zs ys xs q : ℕ) : Type 0 where
  pub k : ℕ
  pub j : ℕ
  pub i : ℕ
  pub inside : IsPlaceIn zs ys xs k j i
  pub is : place_in ys xs k j i ≡ q

-- a product that is not 0 has no factor 0
some-left : (a b q : ℕ) → q < a * b → 0 < b
some-left a zero q h = absurd (omega (arith, mul-none a))
  where
    mul-none : (a : ℕ) → a * 0 ≡ 0
    mul-none a = omega arith
some-left a (suc b) q h = omega arith

pub point_of : (zs ys xs q : ℕ) → q < zs * (ys * xs) → PointOf zs ys xs q
point_of zs ys xs q h =
    let plane : 0 < ys * xs = some-left zs (ys * xs) q h in
    let k : ℕ = q / (ys * xs) in
    let r : ℕ = q % (ys * xs) in
    let k_below : q / (ys * xs) < zs = (div-lt_iff_lt-mul plane).1 h in
    let r_below : q % (ys * xs) < ys * xs = mod-lt q plane in
    let line : 0 < xs = some-left ys xs (q % (ys * xs)) r_below in
    let j_below : (q % (ys * xs)) / xs < ys = (div-lt_iff_lt-mul line).1 r_below in
    let i_below : (q % (ys * xs)) % xs < xs = mod-lt (q % (ys * xs)) line in
    record {
      k = q / (ys * xs) + 1;
      j = (q % (ys * xs)) / xs + 1;
      i = (q % (ys * xs)) % xs + 1;
      inside = record { in_z = (omega arith, omega arith); in_y = (omega arith, omega arith); in_x = (omega arith, omega arith) };
      is = joined (q / (ys * xs)) ((q % (ys * xs)) / xs) ((q % (ys * xs)) % xs) (mod-add-div' q (ys * xs)) (mod-add-div' (q % (ys * xs)) xs);
    }
  where
    joined : (a b c : ℕ) → (q % (ys * xs)) + a * (ys * xs) ≡ q → c + b * xs ≡ q % (ys * xs) → place_in ys xs (a + 1) (b + 1) (c + 1) ≡ q
    joined a b c e f =
        let g : place_in ys xs (a + 1) (b + 1) (c + 1) ≡ (a * ys + b) * xs + c = (λ n. (less a n * ys + less b n) * xs + less c n) in
        omega (arith, g, e, f, add-mul (a * ys) b xs, mul_assoc a ys xs)
      where
        less : (a : ℕ) → (a + 1) - 1 ≡ a
        less a = omega arith

-- a place inside the list has its point inside the levels
pub level_within : (zs ys xs k j i : ℕ) → 1 ≤ k → place_in ys xs k j i < zs * (ys * xs) → k ≤ zs
level_within zs ys xs k j i low h = by (nat_le k zs) refl
  where
    past : zs ≤ k - 1 → k ≤ zs
    past p =
        let planes : zs * ys ≤ (k - 1) * ys = mul-le-mul_right ys p in
        let rows : zs * ys ≤ (k - 1) * ys + (j - 1) = omega (arith, planes) in
        let all : zs * ys * xs ≤ ((k - 1) * ys + (j - 1)) * xs = mul-le-mul_right xs rows in
        omega (arith, all, h, mul_assoc zs ys xs)

    by : (b : Bool) → nat_le k zs ≡ b → k ≤ zs
    by true e = grind arith
    by false e = past (not_le e)
      where
        not_le : nat_le k zs ≡ false → zs ≤ k - 1
        not_le f = grind arith

-- two lists with the same elements
pub same_list : {X : Type 0} (us vs : List X) (d : X) → length us ≡ length vs → ((q : ℕ) → q < length us → get_or us q d ≡ get_or vs q d) → us ≡ vs
same_list [] [] d e h = refl
same_list [] (b ∷ vs) d e h = absurd (omega (arith, e))
same_list (a ∷ us) [] d e h = absurd (omega (arith, e))
same_list (a ∷ us) (b ∷ vs) d e h =
    let head : a ≡ b = h 0 (omega arith) in
    let tail : us ≡ vs = same_list us vs d (omega (arith, e)) (λ q p. h (suc q) (omega (arith, p))) in
    (λ n. head n ∷ tail n)
