-- The numbers of slabs stand in the pieces of the owners.
use Rattle.std.proofs.Common.{◌≡◌, ℕ, ◌+◌, ◌-◌, ◌*◌, ◌<◌, ◌≤◌, true, List, map, length, refl, sym, ap, ◌∙◌, arith}
use Rattle.std.proofs.lemmas.List.{get_or-map, length-map}
use Rattle.std.specs.Prelude.{ℤ, pos, ◌-ℤ◌, unsigned_abs, slice_index_or}
use Rattle.wf_model.specs.declared.layout.Layout.{Layout}
use Rattle.wf_model.specs.declared.plan.Plan.{Plan}
use Rattle.wf_model.specs.Plans.{nz, point_x, point_y}
use Rattle.wf_model.specs.Grids.{Grids}
use Rattle.wf_model.specs.Streams.{file_x, file_y, file_list}
use Rattle.wf_model.specs.Frames.{frame_of}
use Rattle.wf_model.specs.Patches.{Split, split_of, Box, in_span, size_of, own_box, is_own, owner_of, cells_in}
use Rattle.wf_model.specs.Shapes.{grid_cell}
use Rattle.wf_model.specs.Held.{numbers_at, piece_numbers, slab_numbers}
use Rattle.wf_model.specs.Sound.{IsDomain, IsSoundLayout}
use Rattle.wf_model.specs.Agreement.{IsPatch}
use Rattle.wf_laws.proofs.Bools.{and_left, and_right}
use Rattle.wf_laws.proofs.Places.{IsRoom, room_of, back_x, back_y}
use Rattle.wf_laws.proofs.Cells.{span-at, cell}
use Rattle.wf_laws.proofs.Listing.{length-listed, get_or-listed, listed-same}
use Rattle.wf_laws.proofs.BoxCells.{place_is, place_below, length-cells, get_or-cells}
use Rattle.wf_held_laws.specs.Slabs.{IsFilePoint, file_place, row_of, column_of, piece_place, number_in_pieces, slab_of_pieces, ListsHaveTheirLengths, PiecesGoToTheirPlaces, SlabsAreMadeOfPieces}
use Rattle.wf_held_laws.proofs.SlabPlaces.{file_is_place, one_patch}

-- a number from 1, without 1 and with it
pub back : (a : ℕ) → 1 ≤ a → 1 + (a - 1) ≡ a
back a h = omega arith

-- the number of a point of a file, in the level's list
pub file_number : (plan : Plan) (d f k j i : ℕ) (g : Grids) → IsFilePoint plan d f k j i →
    slice_index_or (file_list plan d f g) (file_place plan d f k j i) (pos 0) ≡ g d f k (row_of plan d f j) (column_of plan d f i)
unfolding file_list
file_number plan d f k j i g at =
    ap (λ (m : ℕ). slice_index_or (file_list plan d f g) m (pos 0)) (place_is (k - 1) (j - 1) (i - 1) (file_y plan d f) (file_x plan d f))
    ∙ get_or-listed (nz plan f) (file_y plan d f) (file_x plan d f) (λ k j i. g d f k (point_y plan d f (pos j)) (point_x plan d f (pos i))) (k - 1) (j - 1) (i - 1)
    (omega (arith, (at.level).0, (at.level).1)) (omega (arith, (at.row).0, (at.row).1)) (omega (arith, (at.column).0, (at.column).1))
    ∙ (λ n. g d f (back k (at.level).0 n) (row_of plan d f (back j (at.row).0 n)) (column_of plan d f (back i (at.column).0 n)))

module _ (plan : Plan) (split : Split) (d p f : ℕ) where
  -- an own point lies in the spans of the own box
  own_spans : (y x : ℕ) → is_own plan split d p f (pos y) (pos x) ≡ true → (in_span (own_box plan split d p f).y (pos y) ≡ true) × (in_span (own_box plan split d p f).x (pos x) ≡ true)
  unfolding is_own
  own_spans y x h = (and_left _ _ h, and_right (in_span (own_box plan split d p f).y (pos y)) _ h)

  -- its place lies in the list of the cells of the own box
  pub piece_below : (k y x : ℕ) → (1 ≤ k) × (k ≤ nz plan f) → is_own plan split d p f (pos y) (pos x) ≡ true →
      piece_place plan split d p f k y x < nz plan f * (size_of (own_box plan split d p f).y * size_of (own_box plan split d p f).x)
  piece_below k y x hk own =
      let s = own_spans y x own in
      let sy = span-at (own_box plan split d p f).y (pos y) s.0 in
      let sx = span-at (own_box plan split d p f).x (pos x) s.1 in
      place_below (k - 1) (unsigned_abs (pos y -ℤ (own_box plan split d p f).y.low)) (unsigned_abs (pos x -ℤ (own_box plan split d p f).x.low)) (nz plan f) (size_of (own_box plan split d p f).y) (size_of (own_box plan split d p f).x)
      (omega (arith, hk.0, hk.1)) sy.0 sx.0

  -- the number of an own point, in the list of the own cells
  pub own_number : (k y x : ℕ) (g : Grids) → (1 ≤ k) × (k ≤ nz plan f) → is_own plan split d p f (pos y) (pos x) ≡ true →
      slice_index_or (map (grid_cell plan d g) (cells_in plan f (own_box plan split d p f))) (piece_place plan split d p f k y x) (pos 0) ≡ g d f k (row_of plan d f y) (column_of plan d f x)
  own_number k y x g hk own =
      let b : Box = own_box plan split d p f in
      let s = own_spans y x own in
      let sy = span-at b.y (pos y) s.0 in
      let sx = span-at b.x (pos x) s.1 in
      let n : ℕ = piece_place plan split d p f k y x in
      get_or-map (grid_cell plan d g) (cells_in plan f b) n (cell f k (pos y) (pos x)) (pos 0) (omega (arith, piece_below k y x hk own, length-cells plan f b))
      ∙ ap (grid_cell plan d g)
      (get_or-cells plan f b (k - 1) (unsigned_abs (pos y -ℤ b.y.low)) (unsigned_abs (pos x -ℤ b.x.low)) (cell f k (pos y) (pos x)) (omega (arith, hk.0, hk.1)) sy.0 sx.0
      ∙ (λ m. cell f (back k hk.0 m) (sy.1 m) (sx.1 m)))

-- the law on lengths
pub have_lengths : ListsHaveTheirLengths
unfolding slab_numbers piece_numbers file_list
have_lengths r layout n f p =
    let plan : Plan = r.plan in
    let d : ℕ = (frame_of r n).domain in
    let g : Grids = numbers_at r layout (frame_of r n).place in
    let slab : length (slab_numbers r layout n f) ≡ nz plan f * (file_y plan d f * file_x plan d f) =
    length-listed (nz plan f) (file_y plan d f) (file_x plan d f) (λ k j i. g d f k (point_y plan d f (pos j)) (point_x plan d f (pos i))) in
    let piece : length (piece_numbers r layout n f p) ≡ nz plan f * (size_of (own_box plan (split_of layout) d p f).y * size_of (own_box plan (split_of layout) d p f).x) =
    length-map (cells_in plan f (own_box plan (split_of layout) d p f)) (grid_cell plan d g) ∙ length-cells plan f (own_box plan (split_of layout) d p f) in
    record {
      slab = slab;
      piece = piece;
      in_slab = λ k j i at. omega (arith, slab, place_below (k - 1) (j - 1) (i - 1) (nz plan f) (file_y plan d f) (file_x plan d f) (omega (arith, (at.level).0, (at.level).1)) (omega (arith, (at.row).0, (at.row).1)) (omega (arith, (at.column).0, (at.column).1)));
      in_piece = λ k y x hk own. omega (arith, piece, piece_below plan (split_of layout) d p f k y x hk own);
    }

-- the number of a file's point in the piece of a patch that owns it
pub number_in_piece : (plan : Plan) (layout : Layout) (d p f k j i : ℕ) (g : Grids) → IsSoundLayout plan layout → IsDomain plan d → IsFilePoint plan d f k j i →
    is_own plan (split_of layout) d p f (pos (row_of plan d f j)) (pos (column_of plan d f i)) ≡ true →
    slice_index_or (map (grid_cell plan d g) (cells_in plan f (own_box plan (split_of layout) d p f))) (piece_place plan (split_of layout) d p f k (row_of plan d f j) (column_of plan d f i)) (pos 0)
    ≡ g d f k (row_of plan d f j) (column_of plan d f i)
number_in_piece plan layout d p f k j i g laid is at own =
    let room : IsRoom plan (split_of layout) d = room_of plan layout laid d is in
    let place = file_is_place plan d f k j i at in
    own_number plan (split_of layout) d p f k (row_of plan d f j) (column_of plan d f i) g at.level own
    ∙ (λ n. g d f k (back_y plan (split_of layout) d room f (pos j) (pos i) place n) (back_x plan (split_of layout) d room f (pos j) (pos i) place n))

-- the law on places
pub pieces_go : PiecesGoToTheirPlaces
unfolding slab_numbers piece_numbers
pieces_go r layout n f p k j i laid is hp at own =
    let d : ℕ = (frame_of r n).domain in
    let g : Grids = numbers_at r layout (frame_of r n).place in
    file_number r.plan d f k j i g at ∙ sym (number_in_piece r.plan layout d p f k j i g laid is at own)

-- the slab of pieces with the numbers of one grid is the grid's
pub made_slab : (plan : Plan) (layout : Layout) (d f : ℕ) (g : Grids) (pieces : ℕ → List ℤ) → IsSoundLayout plan layout → IsDomain plan d →
    ((p : ℕ) → IsPatch layout p → pieces p ≡ map (grid_cell plan d g) (cells_in plan f (own_box plan (split_of layout) d p f))) →
    slab_of_pieces plan (split_of layout) d f pieces ≡ file_list plan d f g
unfolding slab_of_pieces file_list
made_slab plan layout d f g pieces laid is each =
    listed-same (nz plan f) (file_y plan d f) (file_x plan d f) (λ k j i. number_in_pieces plan (split_of layout) d f pieces k (row_of plan d f j) (column_of plan d f i))
    (λ k j i. g d f k (point_y plan d f (pos j)) (point_x plan d f (pos i)))
    (λ k j i lk uk lj uj li ui.
    let at : IsFilePoint plan d f k j i = record { level = (lk, uk); row = (lj, uj); column = (li, ui) } in
    let q : ℕ = owner_of plan (split_of layout) d f (row_of plan d f j) (column_of plan d f i) in
    let one = one_patch plan layout d f k j i laid is at in
    ap (λ (xs : List ℤ). slice_index_or xs (piece_place plan (split_of layout) d q f k (row_of plan d f j) (column_of plan d f i)) (pos 0)) (each q one.below)
    ∙ number_in_piece plan layout d q f k j i g laid is at one.passes)

-- the law on slabs
pub slabs_made : SlabsAreMadeOfPieces
unfolding slab_numbers piece_numbers
slabs_made r layout n f laid is =
    made_slab r.plan layout (frame_of r n).domain f (numbers_at r layout (frame_of r n).place) (piece_numbers r layout n f) laid is (λ p h. refl)
