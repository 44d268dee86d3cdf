-- A patch's memory as it is kept: the memory box of each level, and the list of its cells' numbers.
use Rattle.std.specs.Prelude.{◌≡◌, ℕ, ◌^◌, ◌<◌, ◌≤◌, List, length, replicate, ℤ, pos}
use Rattle.std.specs.Prelude.{slice_index_or, false}
use Rattle.wf_model.specs.declared.layout.Layout.{Layout}
use Rattle.wf_model.specs.declared.plan.Plan.{Plan}
use Rattle.wf_model.specs.Agreement.{IsOwnCell}
use Rattle.wf_model.specs.PatchEffect.{Memory, Setting}
use Rattle.wf_model.specs.Patches.{Split, Cell, split_of, kept_at}
use Rattle.wf_model.specs.Sound.{IsLevel}
use Rattle.wf_boxes.specs.declared.places.LevelBox.{LevelBox}
use Rattle.wf_boxes.specs.Places.{IsLevelBox, cells_of}
use Rattle.wf_model.specs.Kept.{IsSoundPatch, IsKeptCell, ShowsMemory, SetsExactly}
use Rattle.wf_model.specs.Kept.{kept_size, level_kept}

-- a patch's memory: its domain, from 1, its number, from 0, and the list of each level, from 0
pub record KeptMemory : Type 0 where
  pub domain : ℕ
  pub patch : ℕ
  pub levels : List (List ℤ)

-- a box without cells, which stands for a number past the end
abbrev pub no_box : LevelBox
no_box = record {
  south = pos 0;
  west = pos 0;
  rows = 0;
  columns = 0;
  levels = 0;
  width = 0;
  height = 0;
  periodic_x = false;
  periodic_y = false;
}

-- the memory box of a level
abbrev pub box_at : List LevelBox → ℕ → LevelBox
box_at boxes f = slice_index_or boxes f no_box

-- the memory boxes of all levels
pub record AreLevelBoxes (plan : Plan) (split : Split) (d p : ℕ)
    (boxes : List LevelBox) : Type 0 where
  pub count : length boxes ≡ length plan.fields
  pub each : (f : ℕ) → IsLevel plan f → IsLevelBox plan split d p f (box_at boxes f)

-- the first n lists have a 0 for each cell
pub record AreZeros (boxes : List LevelBox) (n : ℕ) (lists : List (List ℤ)) : Type 0 where
  pub count : length lists ≡ n
  pub zeros : (f : ℕ) → f < n → level_kept lists f ≡ replicate (cells_of (box_at boxes f)) (pos 0)

-- a memory of a patch: the boxes of all levels, and a list for each, as long as its box has cells
pub record IsMemory (plan : Plan) (layout : Layout) (d p : ℕ) (boxes : List LevelBox)
    (lists : List (List ℤ)) : Type 0 where
  pub sound : IsSoundPatch plan layout d p
  pub bounds : AreLevelBoxes plan (split_of layout) d p boxes
  pub few : length plan.fields ≤ 64
  pub levels : length lists ≡ length plan.fields
  pub sizes : (f : ℕ) → IsLevel plan f →
      length (level_kept lists f) ≡ kept_size plan (split_of layout) d p f

-- there is a box and a list of a level, as long as the box has cells
pub record IsLevelOf (boxes : List LevelBox) (lists : List (List ℤ)) (f : ℕ) : Type 0 where
  pub box : f < length boxes
  pub list : f < length lists
  pub size : length (level_kept lists f) ≡ cells_of (box_at boxes f)

-- at most 64 lists, none longer than a memory box may be
pub record AreModest (lists : List (List ℤ)) : Type 0 where
  pub few : length lists ≤ 64
  pub each : (f : ℕ) → f < length lists → length (level_kept lists f) ≤ 2 ^ 37

-- ---- what is said of a memory, by the words for lists of a patch

-- its patch keeps the cell
abbrev pub Keeps : Plan → Layout → KeptMemory → Cell → Type 0
Keeps plan layout m c = IsKeptCell plan (split_of layout) m.domain m.patch c

-- its patch owns the cell
abbrev pub Owns : Plan → Layout → KeptMemory → Cell → Type 0
Owns plan layout m c = IsOwnCell plan (split_of layout) m.domain m.patch c

-- the number of a cell
abbrev pub number_in : Plan → Layout → KeptMemory → Memory
number_in plan layout m = kept_at plan (split_of layout) m.domain m.patch m.levels

-- its lists hold the function
abbrev pub Shows : Plan → Layout → KeptMemory → Memory → Type 0
Shows plan layout m f = ShowsMemory plan (split_of layout) m.domain m.patch m.levels f

-- of the same patch
pub record IsSamePatch (old new : KeptMemory) : Type 0 where
  pub domain : new.domain ≡ old.domain
  pub patch : new.patch ≡ old.patch

-- the cells that a setting sets have its numbers, and all others their own
abbrev pub Sets : Plan → Layout → Setting → KeptMemory → KeptMemory → Type 0
Sets plan layout s old new =
    SetsExactly plan (split_of layout) old.domain old.patch s old.levels new.levels

-- the box is that of a level
abbrev pub HasBox : Plan → Layout → KeptMemory → ℕ → LevelBox → Type 0
HasBox plan layout m f b = IsLevelBox plan (split_of layout) m.domain m.patch f b
