-- Rows of cells that are set, and lists of which some cells are set.
use Rattle.std.specs.Prelude.{◌≡◌, ℕ, ◌+◌, ◌<◌, List, length, take, drop, ◌++◌, map}
use Rattle.std.specs.Prelude.{flat_map, ℤ, pos, ◌+ℤ◌, ◌-ℤ◌, unsigned_abs, slice_index_or}
use Rattle.std.specs.Prelude.{if◌then◌else◌}
use Rattle.std.specs.List.{range_with_len, list_any}
use Rattle.wf_model.specs.declared.layout.Layout.{Layout}
use Rattle.wf_model.specs.declared.plan.Plan.{Plan}
use Rattle.wf_model.specs.Patches.{Split, Cell, split_of, kept_at}
use Rattle.wf_model.specs.Exchange.{same_cell}
use Rattle.wf_boxes.specs.declared.places.LevelBox.{LevelBox}
use Rattle.wf_boxes.specs.Places.{IsCellOf, place_of}
use Rattle.wf_model.specs.Kept.{IsKeptCell, level_kept}
use Rattle.wf_field.specs.Kept.{KeptMemory, box_at}
use Rattle.wf_field.specs.Settings.{cell_at}

-- a list with other numbers from a place on
abbrev pub with_row : List ℤ → ℕ → List ℤ → List ℤ
with_row xs at ys = take at xs ++ (ys ++ drop (at + length ys) xs)

-- so many cells of a row, from one on
abbrev pub row_cells : ℕ → ℕ → ℤ → ℤ → ℕ → List Cell
row_cells f k j i n = map (λ m. cell_at f k j (i +ℤ pos m)) (range_with_len 0 n)

-- the number of a cell in lists over these boxes
abbrev pub number_of : List LevelBox → List (List ℤ) → Cell → ℤ
number_of boxes lists c =
    slice_index_or (level_kept lists c.field) (place_of (box_at boxes c.field) c.k c.j c.i) (pos 0)

-- a cell of one of the boxes
pub record IsBoxCell (boxes : List LevelBox) (c : Cell) : Type 0 where
  pub level : c.field < length boxes
  pub cell : IsCellOf (box_at boxes c.field) c.k c.j c.i

-- these cells are set, each to its number, and no others
pub record SetsCells (boxes : List LevelBox) (v : Cell → ℤ) (cells : List Cell)
    (old new : List (List ℤ)) : Type 0 where
  pub levels : length new ≡ length old
  pub sizes : (f : ℕ) → length (level_kept new f) ≡ length (level_kept old f)
  pub numbers : (c : Cell) → IsBoxCell boxes c →
      number_of boxes new c ≡ (if list_any (same_cell c) cells then v c else number_of boxes old c)

-- the same of the cells that a patch keeps
pub record SetsKept (plan : Plan) (split : Split) (d p : ℕ) (v : Cell → ℤ) (cells : List Cell)
    (old new : List (List ℤ)) : Type 0 where
  pub levels : length new ≡ length old
  pub sizes : (f : ℕ) → length (level_kept new f) ≡ length (level_kept old f)
  pub numbers : (c : Cell) → IsKeptCell plan split d p c →
      kept_at plan split d p new c.field c.k c.j c.i
      ≡ (if list_any (same_cell c) cells then v c
      else kept_at plan split d p old c.field c.k c.j c.i)

-- the same of a memory
abbrev pub SetsEach : Plan → Layout → (Cell → ℤ) → List Cell → KeptMemory → KeptMemory → Type 0
SetsEach plan layout v cells old new =
    SetsKept plan (split_of layout) old.domain old.patch v cells old.levels new.levels

-- the number of a cell of a row from i on
abbrev pub row_number : ℤ → List ℤ → Cell → ℤ
row_number i values c = slice_index_or values (unsigned_abs (c.i -ℤ i)) (pos 0)

-- so many rows of a level of a memory box, and so many planes
abbrev pub box_rows : ℕ → LevelBox → ℕ → ℕ → List Cell
box_rows f s k n =
    flat_map (λ y. row_cells f k (s.south +ℤ pos y) s.west s.columns) (range_with_len 0 n)

abbrev pub box_planes : ℕ → LevelBox → ℕ → List Cell
box_planes f s n = flat_map (λ a. box_rows f s (a + 1) s.rows) (range_with_len 0 n)
