-- Places in rows of one length, of levels of one number of rows.
use Rattle.std.proofs.Common.{◌≡◌, ℕ, suc, ◌+◌, ◌-◌, ◌*◌, ◌≤◌, ◌<◌, ap₂, sym, subst, ◌∙◌, arith}
use Rattle.std.proofs.Math.Nat.{mul-le-mul_right, suc-mul}
use Rattle.std.proofs.lemmas.Int.{ints}
use Rattle.std.specs.Prelude.{ℤ, ◌-ℤ◌, unsigned_abs}
use Rattle.wf_boxes.specs.declared.places.LevelBox.{LevelBox}
use Rattle.wf_boxes.specs.Places.{IsRowOf, cells_of, place_of}

-- a place in rows lies below their sizes
pub row_below : (a b n m : ℕ) → a < n → b < m → a * m + b < n * m
row_below a b n m h l = let w : suc a * m ≤ n * m = mul-le-mul_right m h in omega (arith, suc-mul a m, w, l)

-- the place of a row and a column in a level
pub place_below : (k a x levels rows columns count : ℕ) → count ≡ levels * rows * columns → k < levels → a < rows → x < columns → (k * rows + a) * columns + x < count
place_below k a x levels rows columns count is p q r =
    subst (λ (n : ℕ). (k * rows + a) * columns + x < n) (sym is) (row_below (k * rows + a) x (levels * rows) columns (row_below k a levels rows p q) r)

-- the same row and column have the same place
pub place_same : (k a x b y rows columns n : ℕ) → n ≡ (k * rows + a) * columns + x → a ≡ b → x ≡ y → n ≡ (k * rows + b) * columns + y
place_same k a x b y rows columns n is p q = is ∙ ap₂ (λ (c z : ℕ). (k * rows + c) * columns + z) p q

-- cells of a row end within the list
pub row_end : (k a x n levels rows columns : ℕ) → k < levels → a < rows → x + n ≤ columns → (k * rows + a) * columns + x + n ≤ levels * rows * columns
row_end k a x n levels rows columns p q r =
    let w : suc (k * rows + a) * columns ≤ levels * rows * columns = mul-le-mul_right columns (row_below k a levels rows p q) in
    omega (arith, suc-mul (k * rows + a) columns, w, r)

-- the row of a box
pub row_fits : (s : LevelBox) (k n : ℕ) (j i : ℤ) → IsRowOf s k j i n → place_of s k j i + n ≤ cells_of s
row_fits s k n j i is =
    let low = (is.level).0 in
    let high = (is.level).1 in
    let south = (is.row).0 in
    let north = (is.row).1 in
    let west = is.low in
    let east = is.high in
    row_end (k - 1) (unsigned_abs (j -ℤ s.south)) (unsigned_abs (i -ℤ s.west)) n s.levels s.rows s.columns (omega arith) (omega (arith, ints)) (omega (arith, ints))
