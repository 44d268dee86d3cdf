-- The cells of a box stand in a list in order k, j, i.
use Rattle.std.proofs.Common.{◌≡◌, ℕ, ◌+◌, ◌*◌, ◌<◌, List, map, length, get_or, ap, ◌∙◌, arith}
use Rattle.std.proofs.Math.Nat.{add-mul, mul_assoc, suc-mul, mul-le-mul_right}
use Rattle.std.proofs.lemmas.List.{get_or-map, length-map}
use Rattle.std.proofs.lemmas.List.Folds.{flat_map-map}
use Rattle.std.proofs.lemmas.List.FromFn.{length-map-range_with_len, get_or-map-range_with_len}
use Rattle.std.specs.Prelude.{flat_map, ℤ, pos, ◌+ℤ◌}
use Rattle.std.specs.List.{range_with_len}
use Rattle.wf_model.specs.declared.plan.Plan.{Plan}
use Rattle.wf_model.specs.Plans.{nz, up_to}
use Rattle.wf_model.specs.Patches.{Box, Cell, size_of, span_list, cells_in}
use Rattle.wf_laws.proofs.Members.{flat_map-same}
use Rattle.wf_laws.proofs.Cells.{cell}
use Rattle.wf_laws.proofs.Listing.{length-rows, get_or-rows}

-- a place in order k, j, i, by planes and rows
pub place_is : (a b c ys xs : ℕ) → (a * ys + b) * xs + c ≡ a * (ys * xs) + (b * xs + c)
place_is a b c ys xs = omega (arith, add-mul (a * ys) b xs, mul_assoc a ys xs)

-- a place below three bounds lies in the list
pub place_below : (a b c zs ys xs : ℕ) → a < zs → b < ys → c < xs → (a * ys + b) * xs + c < zs * (ys * xs)
place_below a b c zs ys xs p q r =
    omega (arith, place_is a b c ys xs, mul-le-mul_right (ys * xs) p, suc-mul a (ys * xs), mul-le-mul_right xs q, suc-mul b xs)

-- nothing more
zero_more : (n : ℕ) → 0 + n ≡ n
zero_more n = omega arith

module _ (plan : Plan) (f : ℕ) (b : Box) where
  -- a row of the cells of a box
  cells_row : ℕ → ℤ → List Cell
  cells_row k j = map (λ i. cell f k j i) (span_list b.x)

  -- its length
  length-row : (k : ℕ) (j : ℤ) → length (cells_row k j) ≡ size_of b.x
  unfolding cells_row
  length-row k j = length-map (span_list b.x) (λ i. cell f k j i) ∙ length-map-range_with_len (λ n. b.x.low +ℤ pos n) 0 (size_of b.x)

  -- a plane of them
  cells_plane : ℕ → List Cell
  cells_plane k = flat_map (λ n. cells_row k (b.y.low +ℤ pos n)) (range_with_len 0 (size_of b.y))

  -- its length
  length-plane : (k : ℕ) → length (cells_plane k) ≡ size_of b.y * size_of b.x
  unfolding cells_plane
  length-plane k = length-rows (λ n. cells_row k (b.y.low +ℤ pos n)) (size_of b.x) (λ n. length-row k (b.y.low +ℤ pos n)) 0 (size_of b.y)

  -- the cells of a box are its planes
  cells-planes : cells_in plan f b ≡ flat_map cells_plane (range_with_len 1 (nz plan f))
  unfolding cells_in cells_plane cells_row
  cells-planes = flat_map-same _ _ (up_to (nz plan f)) (λ k h. flat_map-map (cells_row k) (λ (n : ℕ). b.y.low +ℤ pos n) (range_with_len 0 (size_of b.y)))

  -- how many there are
  pub length-cells : length (cells_in plan f b) ≡ nz plan f * (size_of b.y * size_of b.x)
  length-cells = ap length cells-planes ∙ length-rows cells_plane (size_of b.y * size_of b.x) length-plane 1 (nz plan f)

  -- a cell of a row
  get_or-row : (k : ℕ) (j : ℤ) (x : ℕ) (o : Cell) → x < size_of b.x → get_or (cells_row k j) x o ≡ cell f k j (b.x.low +ℤ pos x)
  unfolding cells_row
  get_or-row k j x o h =
      get_or-map (λ i. cell f k j i) (span_list b.x) x (pos 0) o (omega (arith, h, length-map-range_with_len (λ n. b.x.low +ℤ pos n) 0 (size_of b.x)))
      ∙ ap (cell f k j) (get_or-map-range_with_len (λ n. b.x.low +ℤ pos n) 0 (size_of b.x) x x (pos 0) h (omega arith))

  -- the cells stand in order k, j, i
  pub get_or-cells : (k y x : ℕ) (o : Cell) → k < nz plan f → y < size_of b.y → x < size_of b.x →
      get_or (cells_in plan f b) ((k * size_of b.y + y) * size_of b.x + x) o ≡ cell f (1 + k) (b.y.low +ℤ pos y) (b.x.low +ℤ pos x)
  unfolding cells_plane
  get_or-cells k y x o p q r =
      ap (λ (n : ℕ). get_or (cells_in plan f b) n o) (place_is k y x (size_of b.y) (size_of b.x))
      ∙ ap (λ (cs : List Cell). get_or cs (k * (size_of b.y * size_of b.x) + (y * size_of b.x + x)) o) cells-planes
      ∙ get_or-rows cells_plane (size_of b.y * size_of b.x) length-plane 1 (nz plan f) k (y * size_of b.x + x) o p (omega (arith, mul-le-mul_right (size_of b.x) q, suc-mul y (size_of b.x)))
      ∙ get_or-rows (λ n. cells_row (1 + k) (b.y.low +ℤ pos n)) (size_of b.x) (λ n. length-row (1 + k) (b.y.low +ℤ pos n)) 0 (size_of b.y) y x o q r
      ∙ ap (λ (n : ℕ). get_or (cells_row (1 + k) (b.y.low +ℤ pos n)) x o) (zero_more y)
      ∙ get_or-row (1 + k) (b.y.low +ℤ pos y) x o r
