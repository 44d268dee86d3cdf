-- How a slab is assembled piece by piece, in whatever order the pieces come.
use Rattle.std.specs.Prelude.{◌≡◌, ℕ, ◌+◌, ◌<◌, List, [], ◌∷◌, length, All, IsTrue, IsFalse}
use Rattle.std.specs.Prelude.{ℤ, pos, slice_index_or}
use Rattle.std.specs.List.{Contains}
use Rattle.wf_model.specs.declared.layout.Layout.{Layout}
use Rattle.wf_model.specs.declared.plan.Plan.{Plan}
use Rattle.wf_model.specs.Patches.{split_of, in_span, own_box, is_own}
use Rattle.wf_model.specs.Sound.{IsDomain, IsSoundLayout}
use Rattle.wf_model.specs.Agreement.{IsPatch}
use Rattle.wf_held_laws.specs.Slabs.{IsFilePoint, file_place, file_size, shows_own, own_columns}
use Rattle.wf_held_laws.specs.Slabs.{piece_place, shown_place, slab_of_pieces}

-- different points of a file have different places in its list
abbrev pub FilePlacesAreApart : Type 0
FilePlacesAreApart =
    (plan : Plan) (d f k j i l m n : ℕ) →
    IsFilePoint plan d f k j i → IsFilePoint plan d f l m n →
    file_place plan d f k j i ≡ file_place plan d f l m n → (k ≡ l) × (j ≡ m) × (i ≡ n)

-- an own row of a patch: its columns follow one another in the row, in the piece and in the file
pub record IsOwnRow (plan : Plan) (layout : Layout) (d p f k y : ℕ) : Type 0 where
  pub first : ℕ
  pub low : pos first ≡ (own_box plan (split_of layout) d p f).x.low
  pub own : (m : ℕ) → m < own_columns plan (split_of layout) d p f →
      IsTrue (is_own plan (split_of layout) d p f (pos y) (pos (first + m)))
  pub in_piece : (m : ℕ) →
      piece_place plan (split_of layout) d p f k y (first + m)
      ≡ piece_place plan (split_of layout) d p f k y first + m
  pub in_file : (m : ℕ) →
      file_place plan d f k y (first + m) ≡ file_place plan d f k y first + m

-- each row of the own box is one
abbrev pub OwnRowsStandTogether : Type 0
OwnRowsStandTogether =
    (plan : Plan) (layout : Layout) (d p f k y : ℕ) →
    IsTrue (in_span (own_box plan (split_of layout) d p f).y (pos y)) →
    IsOwnRow plan layout d p f k y

-- a list in file shape holds the piece of a patch, at each point of the file that shows an own one
abbrev pub HoldsPiece : Plan → Layout → ℕ → ℕ → ℕ → List ℤ → List ℤ → Type 0
HoldsPiece plan layout d f p piece list =
    (k j i : ℕ) → IsFilePoint plan d f k j i → IsTrue (shows_own plan layout d f p j i) →
    slice_index_or list (file_place plan d f k j i) (pos 0)
    ≡ slice_index_or piece (shown_place plan layout d p f k j i) (pos 0)

-- a piece is put into a list: the new one holds it, and is as before at all other points
pub record IsPut (plan : Plan) (layout : Layout) (d f p : ℕ) (piece list new : List ℤ)
    : Type 0 where
  pub long : length new ≡ length list
  pub own : HoldsPiece plan layout d f p piece new
  pub rest : (k j i : ℕ) →
      IsFilePoint plan d f k j i → IsFalse (shows_own plan layout d f p j i) →
      slice_index_or new (file_place plan d f k j i) (pos 0)
      ≡ slice_index_or list (file_place plan d f k j i) (pos 0)

-- a piece that is there stays there when that of another patch is put
abbrev pub PiecesStayWhenOthersArePut : Type 0
PiecesStayWhenOthersArePut =
    (plan : Plan) (layout : Layout) (d f p q : ℕ) (piece other list new : List ℤ) →
    IsSoundLayout plan layout → IsDomain plan d →
    IsPatch layout p → IsPatch layout q → (q ≡ p → ⊥) →
    IsPut plan layout d f p piece list new → HoldsPiece plan layout d f q other list →
    HoldsPiece plan layout d f q other new

-- a list that holds the piece of each patch is the slab made of them
abbrev pub ListsWithEachPieceAreSlabs : Type 0
ListsWithEachPieceAreSlabs =
    (plan : Plan) (layout : Layout) (d f : ℕ) (pieces : ℕ → List ℤ) (list : List ℤ) →
    IsSoundLayout plan layout → IsDomain plan d → length list ≡ file_size plan d f →
    ((p : ℕ) → IsPatch layout p → HoldsPiece plan layout d f p (pieces p) list) →
    list ≡ slab_of_pieces plan (split_of layout) d f pieces

-- the pieces of these patches are put, one after the other
abbrev pub ArePut : Plan → Layout → ℕ → ℕ → (ℕ → List ℤ) → List ℕ → List ℤ → List ℤ → Type 0
ArePut plan layout d f pieces [] list new = list ≡ new
ArePut plan layout d f pieces (p ∷ ps) list new =
    (mid : List ℤ) × IsPut plan layout d f p (pieces p) list mid
    × ArePut plan layout d f pieces ps mid new

-- once those of all patches are put, in whatever order and into whatever list, it is the slab
abbrev pub PiecesPutInAnyOrderMakeTheSlab : Type 0
PiecesPutInAnyOrderMakeTheSlab =
    (plan : Plan) (layout : Layout) (d f : ℕ) (pieces : ℕ → List ℤ) (ps : List ℕ)
    (list new : List ℤ) →
    IsSoundLayout plan layout → IsDomain plan d → length list ≡ file_size plan d f →
    All (IsPatch layout) ps → ((p : ℕ) → IsPatch layout p → Contains ps p) →
    ArePut plan layout d f pieces ps list new →
    new ≡ slab_of_pieces plan (split_of layout) d f pieces
