-- Patches of a run as blocks of columns and of rows.
use Rattle.std.specs.Prelude.{◌≡◌, ◌↔◌, ℕ, ◌+◌, ◌-◌, ◌*◌, ◌/◌, ◌%◌, ◌<◌, ◌≤◌, ◌==◌, min, ℤ, pos}
use Rattle.std.specs.Prelude.{IsTrue, if◌then◌else◌, map, flat_map}
use Rattle.std.specs.List.{range_with_len}
use Rattle.wf_model.specs.declared.plan.Plan.{Plan}
use Rattle.wf_model.specs.declared.layout.Layout.{Layout}
use Rattle.wf_model.specs.Plans.{domain_of, field_of, extra, nx, ny}
use Rattle.wf_model.specs.Patches.{split_of, patches_of, own_box, is_own, owner_of}
use Rattle.wf_model.specs.Sound.{IsDomain, IsSoundLayout}
use Rattle.wf_model.specs.Agreement.{IsPatch}
use Rattle.wf_rect.specs.declared.rects.Rect.{Rect}
use Rattle.wf_rect.specs.Blocks.{block_start, IsTheOne}
use Rattle.wf_rect.specs.Owners.{IsInPatch}
use Rattle.wf_rect_laws.specs.Boxes.{box_of}

-- how many points a field that is not staggered has from west to east
abbrev pub columns : Plan → ℕ → ℕ
columns plan d = (domain_of plan d).ide - 1

-- and from south to north
abbrev pub rows : Plan → ℕ → ℕ
rows plan d = (domain_of plan d).jde - 1

-- the first point, from 1, of block p of n over a length
abbrev pub first_point : ℕ → ℕ → ℕ → ℤ
first_point p n len = pos (block_start p n len + 1)

-- the number behind its last point: the last block has the extra points too
abbrev pub end_point : ℕ → ℕ → ℕ → ℕ → ℤ
end_point p n len more = pos (block_start (p + 1) n len + 1 + (if p + 1 == n then more else 0))

-- a field's points in a block of the columns and a block of the rows
abbrev pub block_rect : Plan → Layout → ℕ → ℕ → ℕ → ℕ → Rect
block_rect plan layout d column row f = record {
  i0 = first_point column layout.nproc_x (columns plan d);
  i1 = end_point column layout.nproc_x (columns plan d)
      (extra (field_of plan f).stag_x (domain_of plan d).periodic_x);
  j0 = first_point row layout.nproc_y (rows plan d);
  j1 = end_point row layout.nproc_y (rows plan d)
      (extra (field_of plan f).stag_y (domain_of plan d).periodic_y);
}

-- the number of the patch in a column and a row
abbrev pub patch_at : Layout → ℕ → ℕ → ℕ
patch_at layout column row = row * layout.nproc_x + column

-- it is a patch, and its number tells the column and the row
pub record IsPatchAt (layout : Layout) (column row p : ℕ) : Type 0 where
  pub patch : IsPatch layout p
  pub in_column : p % layout.nproc_x ≡ column
  pub in_row : p / layout.nproc_x ≡ row

abbrev pub PatchesGoRowByRow : Type 0
PatchesGoRowByRow =
    (layout : Layout) (column row : ℕ) → column < layout.nproc_x → row < layout.nproc_y
    → IsPatchAt layout column row (patch_at layout column row)

-- the patches are listed row by row, each row from west to east
abbrev pub PatchesAreListedByRows : Type 0
PatchesAreListedByRows =
    (layout : Layout) → patches_of (split_of layout)
    ≡ flat_map (λ row. map (λ column. patch_at layout column row)
    (range_with_len 0 layout.nproc_x)) (range_with_len 0 layout.nproc_y)

-- a patch's column and row are there, and tell its number
pub record HasPlace (layout : Layout) (p : ℕ) : Type 0 where
  pub column : p % layout.nproc_x < layout.nproc_x
  pub row : p / layout.nproc_x < layout.nproc_y
  pub number : patch_at layout (p % layout.nproc_x) (p / layout.nproc_x) ≡ p

abbrev pub EachPatchHasItsPlace : Type 0
EachPatchHasItsPlace = (layout : Layout) (p : ℕ) → IsPatch layout p → HasPlace layout p

-- a patch's own box is the block of its column by the block of its row
abbrev pub OwnBoxesAreBlocks : Type 0
OwnBoxesAreBlocks =
    (plan : Plan) (layout : Layout) (d p f : ℕ)
    → own_box plan (split_of layout) d p f
    ≡ box_of (block_rect plan layout d (p % layout.nproc_x) (p / layout.nproc_x) f)

-- the point at i and j lies in patch p of the domain's blocks: an extra point where the last point
-- before it does
abbrev pub IsInPatchOf : Plan → Layout → ℕ → ℕ → ℕ → ℕ → Type 0
IsInPatchOf plan layout d p j i =
    IsInPatch layout.nproc_x layout.nproc_y (columns plan d) (rows plan d) p
    (min i (columns plan d)) (min j (rows plan d))

-- a patch owns a point of a field exactly where the point lies in it so
abbrev pub OwnPointsAreInPatches : Type 0
OwnPointsAreInPatches =
    (plan : Plan) (layout : Layout) (d p f j i : ℕ) → IsSoundLayout plan layout → IsDomain plan d
    → IsPatch layout p → (1 ≤ j) × (j ≤ ny plan d f) → (1 ≤ i) × (i ≤ nx plan d f)
    → IsTrue (is_own plan (split_of layout) d p f (pos j) (pos i)) ↔ IsInPatchOf plan layout d p j i

-- the owner of a point of a field is the one patch in which it lies so
abbrev pub OwnersAreAlike : Type 0
OwnersAreAlike =
    (plan : Plan) (layout : Layout) (d p f j i : ℕ) → IsSoundLayout plan layout → IsDomain plan d
    → (1 ≤ j) × (j ≤ ny plan d f) → (1 ≤ i) × (i ≤ nx plan d f)
    → IsTheOne (layout.nproc_x * layout.nproc_y) (λ q. IsInPatchOf plan layout d q j i) p
    → owner_of plan (split_of layout) d f j i ≡ p
