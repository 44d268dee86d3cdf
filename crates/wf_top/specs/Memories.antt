-- What the memory of a patch holds of a grid.
use Rattle.std.specs.Prelude.{◌≡◌, ◌≢◌, ℕ, ◌+◌, ◌-◌, ◌*◌, ◌/◌, ◌<◌, ◌≤◌, min, List, length, get_or}
use Rattle.std.specs.Prelude.{ℤ, pos}
use Rattle.wf_top.specs.declared.patch.Patch.{Patch}
use Rattle.wf_top.specs.Cells.{cell}

-- a patch's own columns are those of the domain from `first` up to `end`, counted from 0, and its
-- memory has one more at each end where the domain has one
pub record IsBlock (nx first end : ℕ) (patch : Patch) : Type 0 where
  pub from : patch.from ≡ first - 1
  pub west : patch.from + patch.west ≡ first
  pub own : first + patch.own ≡ end
  pub width : patch.from + patch.width ≡ min nx (end + 1)
  pub some : first < end
  pub within : end ≤ nx

-- both of its buffers have all cells
pub record HasRows (ny : ℕ) (patch : Patch) : Type 0 where
  pub values : length patch.values.items ≡ ny * patch.width
  pub scratch : length patch.scratch.items ≡ ny * patch.width

-- the columns of the memory from a up to b hold the numbers that the grid has there, by row and
-- column from 1
abbrev pub Hold : (ℕ → ℕ → ℕ) → ℕ → Patch → ℕ → ℕ → Type 0
Hold grid ny patch a b =
    (r c : ℕ) → r < ny → a ≤ c → c < b →
    cell patch.values.items patch.width r c ≡ pos (grid (r + 1) (patch.from + c + 1))

-- the own columns hold a grid
abbrev pub Inside : (ℕ → ℕ → ℕ) → ℕ → Patch → Type 0
Inside grid ny patch = Hold grid ny patch patch.west (patch.west + patch.own)

-- the own columns hold one grid, and the columns beside them in the west and east others
pub record Holds (ny : ℕ) (own west east : ℕ → ℕ → ℕ) (patch : Patch) : Type 0 where
  pub inside : Inside own ny patch
  pub before : Hold west ny patch 0 patch.west
  pub behind : Hold east ny patch (patch.west + patch.own) patch.width

-- a fact of each patch, by its number
abbrev pub Each : (ℕ → Patch → Type 0) → List Patch → Type 0
Each P patches = (p : ℕ) → p < length patches → (other : Patch) → P p (get_or patches p other)

-- where block p begins, of px blocks of nx columns, counted from 0
abbrev pub block_start : ℕ → ℕ → ℕ → ℕ
block_start nx px p = p * nx / px

-- the patch p of px, with room for its cells
pub record IsPatch (nx ny px p : ℕ) (patch : Patch) : Type 0 where
  pub block : IsBlock nx (block_start nx px p) (block_start nx px (p + 1)) patch
  pub rows : HasRows ny patch

-- the same columns, and buffers of the same size
pub record KeepsShape (old new : Patch) : Type 0 where
  pub from : new.from ≡ old.from
  pub west : new.west ≡ old.west
  pub own : new.own ≡ old.own
  pub width : new.width ≡ old.width
  pub values : length new.values.items ≡ length old.values.items
  pub scratch : length new.scratch.items ≡ length old.scratch.items

-- column c took these numbers, row by row, and the others are as before
pub record Took (c rows : ℕ) (numbers : ℕ → ℤ) (old new : Patch) : Type 0 where
  pub taken : (r : ℕ) → r < rows → cell new.values.items old.width r c ≡ numbers r
  pub others : (r q : ℕ) → r < rows → q < old.width → q ≢ c →
      cell new.values.items old.width r q ≡ cell old.values.items old.width r q

-- the numbers of a column of a patch
abbrev pub column_of : Patch → ℕ → ℕ → ℤ
column_of patch c r = cell patch.values.items patch.width r c
