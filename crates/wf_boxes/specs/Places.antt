-- Where a patch keeps the cells of a level.
use Rattle.std.specs.Prelude.{◌≡◌, ℕ, ◌+◌, ◌-◌, ◌*◌, ◌^◌, ◌≤◌, ℤ, pos, ◌+ℤ◌, ◌-ℤ◌, ◌≤ℤ◌, ◌<ℤ◌}
use Rattle.std.specs.Prelude.{unsigned_abs}
use Rattle.wf_model.specs.declared.plan.Plan.{Plan}
use Rattle.wf_model.specs.Plans.{domain_of, nx, ny, nz}
use Rattle.wf_model.specs.Patches.{Split, size_of, memory_box}
use Rattle.wf_boxes.specs.declared.places.LevelBox.{LevelBox}
use Rattle.wf_boxes.specs.Boxes.{IsNear}

-- no larger than the box of a level may be
abbrev pub IsNarrow : LevelBox → Type 0
IsNarrow s = (s.rows ≤ 2 ^ 15) × (s.columns ≤ 2 ^ 15) × (s.levels ≤ 128)

-- the cells that a patch keeps of a level, and the points of the level in the domain
pub record IsLevelBox (plan : Plan) (split : Split) (d p f : ℕ) (s : LevelBox) : Type 0 where
  pub south : s.south ≡ (memory_box plan split d p f).y.low
  pub west : s.west ≡ (memory_box plan split d p f).x.low
  pub rows : s.rows ≡ size_of (memory_box plan split d p f).y
  pub columns : s.columns ≡ size_of (memory_box plan split d p f).x
  pub levels : s.levels ≡ nz plan f
  pub width : s.width ≡ nx plan d f
  pub height : s.height ≡ ny plan d f
  pub some : (1 ≤ s.width) × (1 ≤ s.height)
  pub periodic_x : s.periodic_x ≡ (domain_of plan d).periodic_x
  pub periodic_y : s.periodic_y ≡ (domain_of plan d).periodic_y
  pub near : IsNear s.south × IsNear s.west
  pub narrow : IsNarrow s

-- how many cells it has
abbrev pub cells_of : LevelBox → ℕ
cells_of s = s.levels * s.rows * s.columns

-- a number lies so many from low on
abbrev pub IsFrom : ℤ → ℕ → ℤ → Type 0
IsFrom low n c = (low ≤ℤ c) × (c <ℤ (low +ℤ pos n))

-- a cell of the level
pub record IsCellOf (s : LevelBox) (k : ℕ) (j i : ℤ) : Type 0 where
  pub level : (1 ≤ k) × (k ≤ s.levels)
  pub row : IsFrom s.south s.rows j
  pub column : IsFrom s.west s.columns i

-- its place in the list, from 0
abbrev pub place_of : LevelBox → ℕ → ℤ → ℤ → ℕ
place_of s k j i =
    ((k - 1) * s.rows + unsigned_abs (j -ℤ s.south)) * s.columns + unsigned_abs (i -ℤ s.west)

-- so many cells of a row of the level, from one on
pub record IsRowOf (s : LevelBox) (k : ℕ) (j i : ℤ) (n : ℕ) : Type 0 where
  pub level : (1 ≤ k) × (k ≤ s.levels)
  pub row : IsFrom s.south s.rows j
  pub low : s.west ≤ℤ i
  pub high : (i +ℤ pos n) ≤ℤ (s.west +ℤ pos s.columns)
