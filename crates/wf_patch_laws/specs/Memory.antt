-- The lists that a patch keeps tell its memory, cell by cell, and nothing else.
use Rattle.std.specs.Prelude.{◌≡◌, ℕ, ◌<◌, List, length, map, flat_map, fold, set, ℤ, pos}
use Rattle.std.specs.Prelude.{◌+ℤ◌, slice_index_or, if◌then◌else◌}
use Rattle.wf_model.specs.declared.plan.Plan.{Plan}
use Rattle.wf_model.specs.Patches.{Split, Cell, memory_box, cells_in}
use Rattle.wf_model.specs.Exchange.{same_cell}
use Rattle.wf_model.specs.PatchEffect.{Memory, Setting, after_setting, patch_cells}
use Rattle.wf_model.specs.Agreement.{cell_number}
use Rattle.wf_model.specs.Sound.{IsLevel}
use Rattle.wf_model.specs.Kept.{IsKeptCell, HoldAlike, kept_size, kept_place, level_kept}
use Rattle.wf_model.specs.Kept.{ShowsMemory, SetsExactly}

-- each cell has a place in its level's list
abbrev pub CellsHavePlaces : Type 0
CellsHavePlaces = (plan : Plan) (split : Split) (d p : ℕ) (c : Cell) → IsKeptCell plan split d p c →
    kept_place plan split d p c < kept_size plan split d p c.field

-- and no other one has it
abbrev pub PlacesTellCells : Type 0
PlacesTellCells =
    (plan : Plan) (split : Split) (d p : ℕ) (a b : Cell) → IsKeptCell plan split d p a →
    IsKeptCell plan split d p b → a.field ≡ b.field →
    kept_place plan split d p a ≡ kept_place plan split d p b → a ≡ b

-- the number at a cell is read at its place
abbrev pub NumbersAreReadAtPlaces : Type 0
NumbersAreReadAtPlaces =
    (plan : Plan) (split : Split) (d p : ℕ) (lists : List (List ℤ)) (m : Memory) (c : Cell) →
    ShowsMemory plan split d p lists m → IsKeptCell plan split d p c →
    slice_index_or (level_kept lists c.field) (kept_place plan split d p c) (pos 0)
    ≡ cell_number m c

-- the function with another number at one cell
abbrev pub with_number : Memory → Cell → ℤ → Memory
with_number m c v f k j i =
    if same_cell c (record { field = f; k = k; j = j; i = i }) then v else m f k j i

-- the lists with another number at the place of a cell
abbrev pub with_kept : Plan → Split → ℕ → ℕ → List (List ℤ) → Cell → ℤ → List (List ℤ)
with_kept plan split d p lists c v =
    set lists c.field (set (level_kept lists c.field) (kept_place plan split d p c) v)

-- a number set at the place of a cell is set at that cell, and at no other one
abbrev pub OneCellIsSet : Type 0
OneCellIsSet =
    (plan : Plan) (split : Split) (d p : ℕ) (lists : List (List ℤ)) (m : Memory) (c : Cell)
    (v : ℤ) → ShowsMemory plan split d p lists m → IsKeptCell plan split d p c →
    ShowsMemory plan split d p (with_kept plan split d p lists c v) (with_number m c v)

-- lists that are set as a setting says, and no others, hold what the setting leaves
abbrev pub SettingsAreShown : Type 0
SettingsAreShown =
    (plan : Plan) (split : Split) (d p : ℕ) (s : Setting) (old new : List (List ℤ)) (m : Memory) →
    ShowsMemory plan split d p old m → SetsExactly plan split d p s old new →
    ShowsMemory plan split d p new (after_setting s m)

-- lists that hold one function hold each that gives the same numbers on the memory, and no others
pub record ShownAlike (plan : Plan) (split : Split) (d p : ℕ) (lists : List (List ℤ))
    (m n : Memory) : Type 0 where
  pub shown : HoldAlike plan split d p m n → ShowsMemory plan split d p lists n
  pub alike : ShowsMemory plan split d p lists n → HoldAlike plan split d p m n

-- so a patch may keep lists in place of the whole function
abbrev pub MemoriesAreShownAlike : Type 0
MemoriesAreShownAlike =
    (plan : Plan) (split : Split) (d p : ℕ) (lists : List (List ℤ)) (m n : Memory) →
    ShowsMemory plan split d p lists m → ShownAlike plan split d p lists m n

-- each list has the numbers of the level's cells, in order
abbrev pub ListsHaveTheCellsInOrder : Type 0
ListsHaveTheCellsInOrder =
    (plan : Plan) (split : Split) (d p : ℕ) (lists : List (List ℤ)) (m : Memory) (f : ℕ) →
    ShowsMemory plan split d p lists m → IsLevel plan f →
    level_kept lists f ≡ map (cell_number m) (cells_in plan f (memory_box plan split d p f))

-- and lists of those numbers hold the function
abbrev pub ListsOfTheCellsShow : Type 0
ListsOfTheCellsShow =
    (plan : Plan) (split : Split) (d p : ℕ) (lists : List (List ℤ)) (m : Memory)
    → length lists ≡ length plan.fields
    → ((f : ℕ) → IsLevel plan f
    → level_kept lists f ≡ map (cell_number m) (cells_in plan f (memory_box plan split d p f)))
    → ShowsMemory plan split d p lists m

-- all lists together have the numbers of all cells of the patch
abbrev pub ListsHaveAllCells : Type 0
ListsHaveAllCells =
    (plan : Plan) (split : Split) (d p : ℕ) (lists : List (List ℤ)) (m : Memory) →
    ShowsMemory plan split d p lists m →
    flat_map (λ xs. xs) lists ≡ map (cell_number m) (patch_cells plan split d p)

-- the count and the sum of its cells are those of all numbers of the lists
pub record CountedAndSummed (plan : Plan) (split : Split) (d p : ℕ) (lists : List (List ℤ))
    (m : Memory) : Type 0 where
  pub count : length (patch_cells plan split d p) ≡ length (flat_map (λ xs. xs) lists)
  pub sum : fold (λ a c. a +ℤ cell_number m c) (pos 0) (patch_cells plan split d p)
      ≡ fold (λ a v. a +ℤ v) (pos 0) (flat_map (λ xs. xs) lists)

-- so a patch's line of the memory report, its cells and their sum, is that of its lists
abbrev pub ListsAreSummed : Type 0
ListsAreSummed = (plan : Plan) (split : Split) (d p : ℕ) (lists : List (List ℤ)) (m : Memory) →
    ShowsMemory plan split d p lists m → CountedAndSummed plan split d p lists m
