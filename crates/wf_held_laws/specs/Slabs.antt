-- How a slab is put together from the pieces of all patches: which number of which piece stands at
-- each place of a file.
use Rattle.std.specs.Prelude.{◌≡◌, ◌⊎◌, ℕ, ◌+◌, ◌-◌, ◌*◌, ◌<◌, ◌≤◌, Bool, List, length, IsTrue}
use Rattle.std.specs.Prelude.{ℤ, pos, ◌-ℤ◌, unsigned_abs, slice_index_or}
use Rattle.wf_model.specs.declared.layout.Layout.{Layout}
use Rattle.wf_model.specs.declared.plan.Plan.{Plan}
use Rattle.wf_model.specs.Plans.{nx, ny, nz, point_x, point_y}
use Rattle.wf_model.specs.Grids.{listed}
use Rattle.wf_model.specs.Streams.{file_x, file_y}
use Rattle.wf_model.specs.Outcome.{RunData}
use Rattle.wf_model.specs.Frames.{frame_of}
use Rattle.wf_model.specs.Patches.{Split, split_of, size_of, own_box, is_own, owner_of}
use Rattle.wf_model.specs.Held.{piece_numbers, slab_numbers}
use Rattle.wf_model.specs.Sound.{IsDomain, IsSoundLayout}
use Rattle.wf_model.specs.Agreement.{IsPatch}
use Rattle.wf_laws.specs.Ownership.{IsTheOne}

-- a point of a level in a file, by k, j and i from 1
pub record IsFilePoint (plan : Plan) (d f k j i : ℕ) : Type 0 where
  pub level : (1 ≤ k) × (k ≤ nz plan f)
  pub row : (1 ≤ j) × (j ≤ file_y plan d f)
  pub column : (1 ≤ i) × (i ≤ file_x plan d f)

-- its place in the level's list, from 0
abbrev pub file_place : Plan → ℕ → ℕ → ℕ → ℕ → ℕ → ℕ
file_place plan d f k j i =
    ((k - 1) * file_y plan d f + (j - 1)) * file_x plan d f + (i - 1)

-- how many numbers the list has
abbrev pub file_size : Plan → ℕ → ℕ → ℕ
file_size plan d f = nz plan f * (file_y plan d f * file_x plan d f)

-- the row of the domain that a file's row shows
abbrev pub row_of : Plan → ℕ → ℕ → ℕ → ℕ
row_of plan d f j = point_y plan d f (pos j)

-- and the column
abbrev pub column_of : Plan → ℕ → ℕ → ℕ → ℕ
column_of plan d f i = point_x plan d f (pos i)

-- the patch owns the point that a file's point shows
abbrev pub shows_own : Plan → Layout → ℕ → ℕ → ℕ → ℕ → ℕ → Bool
shows_own plan layout d f p j i =
    is_own plan (split_of layout) d p f (pos (row_of plan d f j)) (pos (column_of plan d f i))

-- how many rows and columns an own box has
abbrev pub own_rows : Plan → Split → ℕ → ℕ → ℕ → ℕ
own_rows plan split d p f = size_of (own_box plan split d p f).y

abbrev pub own_columns : Plan → Split → ℕ → ℕ → ℕ → ℕ
own_columns plan split d p f = size_of (own_box plan split d p f).x

-- the place of an own point in its patch's piece, from 0: the cells of the own box stand there in
-- order k, j, i
abbrev pub piece_place : Plan → Split → ℕ → ℕ → ℕ → ℕ → ℕ → ℕ → ℕ
piece_place plan split d p f k y x =
    ((k - 1) * own_rows plan split d p f + unsigned_abs (pos y -ℤ (own_box plan split d p f).y.low))
    * own_columns plan split d p f + unsigned_abs (pos x -ℤ (own_box plan split d p f).x.low)

-- and the place there of the point that a file's point shows
abbrev pub shown_place : Plan → Layout → ℕ → ℕ → ℕ → ℕ → ℕ → ℕ → ℕ
shown_place plan layout d p f k j i =
    piece_place plan (split_of layout) d p f k (row_of plan d f j) (column_of plan d f i)

-- the number of a point in the pieces of all patches: it stands in its owner's
abbrev pub number_in_pieces : Plan → Split → ℕ → ℕ → (ℕ → List ℤ) → ℕ → ℕ → ℕ → ℤ
number_in_pieces plan split d f pieces k y x =
    let p : ℕ = owner_of plan split d f y x in
    slice_index_or (pieces p) (piece_place plan split d p f k y x) (pos 0)

-- the slab that is made of the pieces of all patches, in file shape
unfoldable pub slab_of_pieces : Plan → Split → ℕ → ℕ → (ℕ → List ℤ) → List ℤ
slab_of_pieces plan split d f pieces =
    listed (nz plan f) (file_y plan d f) (file_x plan d f)
    (λ k j i. number_in_pieces plan split d f pieces k (row_of plan d f j) (column_of plan d f i))

-- a column of a file is the point of its number; behind the last one a copy of the first may stand
abbrev pub FileColumnsArePoints : Type 0
FileColumnsArePoints =
    (plan : Plan) (layout : Layout) (d f i : ℕ) →
    IsSoundLayout plan layout → IsDomain plan d → (1 ≤ i) × (i ≤ file_x plan d f) →
    ((i ≤ nx plan d f) × (column_of plan d f i ≡ i))
    ⊎ ((i ≡ nx plan d f + 1) × (column_of plan d f i ≡ 1))

-- and so is a row
abbrev pub FileRowsArePoints : Type 0
FileRowsArePoints =
    (plan : Plan) (layout : Layout) (d f j : ℕ) →
    IsSoundLayout plan layout → IsDomain plan d → (1 ≤ j) × (j ≤ file_y plan d f) →
    ((j ≤ ny plan d f) × (row_of plan d f j ≡ j))
    ⊎ ((j ≡ ny plan d f + 1) × (row_of plan d f j ≡ 1))

-- the point that a file's point shows is an own point of its owner, and of no other patch
abbrev pub EachFilePointIsOfOnePatch : Type 0
EachFilePointIsOfOnePatch =
    (plan : Plan) (layout : Layout) (d f k j i : ℕ) →
    IsSoundLayout plan layout → IsDomain plan d → IsFilePoint plan d f k j i →
    IsTheOne (layout.nproc_x * layout.nproc_y) (λ p. IsTrue (shows_own plan layout d f p j i))
    (owner_of plan (split_of layout) d f (row_of plan d f j) (column_of plan d f i))

-- how long slabs and pieces are
pub record HaveLengths (r : RunData) (layout : Layout) (n d f p : ℕ) : Type 0 where
  pub slab : length (slab_numbers r layout n f) ≡ file_size r.plan d f
  pub piece : length (piece_numbers r layout n f p)
      ≡ nz r.plan f
      * (own_rows r.plan (split_of layout) d p f * own_columns r.plan (split_of layout) d p f)
  -- the place of each point lies in the slab, and that of each own point in the piece
  pub in_slab : (k j i : ℕ) → IsFilePoint r.plan d f k j i →
      file_place r.plan d f k j i < length (slab_numbers r layout n f)
  pub in_piece : (k y x : ℕ) → (1 ≤ k) × (k ≤ nz r.plan f) →
      IsTrue (is_own r.plan (split_of layout) d p f (pos y) (pos x)) →
      piece_place r.plan (split_of layout) d p f k y x < length (piece_numbers r layout n f p)

-- with no premise
abbrev pub ListsHaveTheirLengths : Type 0
ListsHaveTheirLengths =
    (r : RunData) (layout : Layout) (n f p : ℕ) → HaveLengths r layout n (frame_of r n).domain f p

-- the number of a file's point is that of its cell in the piece of the patch that owns it
abbrev pub PiecesGoToTheirPlaces : Type 0
PiecesGoToTheirPlaces =
    (r : RunData) (layout : Layout) (n f p k j i : ℕ) →
    let d : ℕ = (frame_of r n).domain in
    IsSoundLayout r.plan layout → IsDomain r.plan d → IsPatch layout p →
    IsFilePoint r.plan d f k j i → IsTrue (shows_own r.plan layout d f p j i) →
    slice_index_or (slab_numbers r layout n f) (file_place r.plan d f k j i) (pos 0)
    ≡ slice_index_or (piece_numbers r layout n f p) (shown_place r.plan layout d p f k j i) (pos 0)

-- so the slab made of all pieces is the frame's
abbrev pub SlabsAreMadeOfPieces : Type 0
SlabsAreMadeOfPieces =
    (r : RunData) (layout : Layout) (n f : ℕ) →
    let d : ℕ = (frame_of r n).domain in
    IsSoundLayout r.plan layout → IsDomain r.plan d →
    slab_of_pieces r.plan (split_of layout) d f (piece_numbers r layout n f)
    ≡ slab_numbers r layout n f

-- a list in file shape holds all pieces: each own point of each patch has its number there, and
-- where a file has a column or a row more than the domain, it is a copy of the first one
pub record HoldsAllPieces (plan : Plan) (layout : Layout) (d f : ℕ) (pieces : ℕ → List ℤ)
    (list : List ℤ) : Type 0 where
  pub long : length list ≡ file_size plan d f
  pub own : (p k y x : ℕ) → IsPatch layout p → (1 ≤ k) × (k ≤ nz plan f) →
      IsTrue (is_own plan (split_of layout) d p f (pos y) (pos x)) →
      slice_index_or list (file_place plan d f k y x) (pos 0)
      ≡ slice_index_or (pieces p) (piece_place plan (split_of layout) d p f k y x) (pos 0)
  pub column : (k j : ℕ) → IsFilePoint plan d f k j (nx plan d f + 1) →
      slice_index_or list (file_place plan d f k j (nx plan d f + 1)) (pos 0)
      ≡ slice_index_or list (file_place plan d f k j 1) (pos 0)
  pub row : (k i : ℕ) → IsFilePoint plan d f k (ny plan d f + 1) i → i ≤ nx plan d f →
      slice_index_or list (file_place plan d f k (ny plan d f + 1) i) (pos 0)
      ≡ slice_index_or list (file_place plan d f k 1 i) (pos 0)

-- the slab of the pieces holds them all
abbrev pub SlabsHoldAllPieces : Type 0
SlabsHoldAllPieces =
    (plan : Plan) (layout : Layout) (d f : ℕ) (pieces : ℕ → List ℤ) →
    IsSoundLayout plan layout → IsDomain plan d →
    HoldsAllPieces plan layout d f pieces (slab_of_pieces plan (split_of layout) d f pieces)

-- and no other list does, in whatever order the pieces came
abbrev pub ListsThatHoldAllPiecesAreSlabs : Type 0
ListsThatHoldAllPiecesAreSlabs =
    (plan : Plan) (layout : Layout) (d f : ℕ) (pieces : ℕ → List ℤ) (list : List ℤ) →
    IsSoundLayout plan layout → IsDomain plan d → HoldsAllPieces plan layout d f pieces list →
    list ≡ slab_of_pieces plan (split_of layout) d f pieces
