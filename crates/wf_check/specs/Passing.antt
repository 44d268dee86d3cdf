-- Patches, rows and levels that pass, as the loops have them.
use Rattle.std.specs.Prelude.{◌≡◌, ℕ, ◌<◌, ◌≤◌, Bool, ℤ, pos, ◌+ℤ◌, IsTrue, IsFalse}
use Rattle.std.specs.List.{list_all}
use Rattle.wf_model.specs.declared.plan.Plan.{Plan}
use Rattle.wf_model.specs.Plans.{nz}
use Rattle.wf_model.specs.Patches.{fine, span_list}
use Rattle.wf_model.specs.Covered.{Asked, is_cell_covered}
use Rattle.wf_model.specs.Uncovered.{computed_box}
use Rattle.wf_check_laws.specs.Repeats.{patch_in, repeats_x, repeats_y, repeats_z}

-- at the point of a row and a column of those that a patch may compute
abbrev pub is_point_covered : Plan → Asked → ℕ → ℕ → ℕ → ℕ → Bool
is_point_covered plan a p k m n = is_cell_covered plan a p k
    ((computed_box plan a p).y.low +ℤ pos m) ((computed_box plan a p).x.low +ℤ pos n)

-- at each point of the row at j
abbrev pub line_passes : Plan → Asked → ℕ → ℕ → ℤ → Bool
line_passes plan a p k j =
    list_all (λ i. is_cell_covered plan a p k j i) (span_list (computed_box plan a p).x)

-- at each point of a row
abbrev pub row_passes : Plan → Asked → ℕ → ℕ → ℕ → Bool
row_passes plan a p k m = line_passes plan a p k ((computed_box plan a p).y.low +ℤ pos m)

-- at each point of a level
unfoldable pub passes_at : Plan → Asked → ℕ → ℕ → Bool
passes_at plan a k p = list_all (line_passes plan a p k) (span_list (computed_box plan a p).y)

-- each patch of row y whose column repeats no other passes at level k
abbrev pub RowPasses : Plan → Asked → ℕ → ℕ → Type 0
RowPasses plan a k y = (x : ℕ) → x < (fine plan a.domain).in_x → IsFalse (repeats_x plan a x) →
    IsTrue (passes_at plan a k (patch_in plan a y x))

-- one does not
pub record RowFails (plan : Plan) (a : Asked) (k y : ℕ) : Type 0 where
  pub x : ℕ
  pub within : x < (fine plan a.domain).in_x
  pub column : IsFalse (repeats_x plan a x)
  pub fails : IsFalse (passes_at plan a k (patch_in plan a y x))

-- each row that repeats no other passes
abbrev pub LevelPasses : Plan → Asked → ℕ → Type 0
LevelPasses plan a k =
    (y : ℕ) → y < (fine plan a.domain).in_y → IsFalse (repeats_y plan a y) → RowPasses plan a k y

-- one does not
pub record LevelFails (plan : Plan) (a : Asked) (k : ℕ) : Type 0 where
  pub y : ℕ
  pub within : y < (fine plan a.domain).in_y
  pub row : IsFalse (repeats_y plan a y)
  pub fails : RowFails plan a k y

-- a level that repeats, or passes
abbrev pub IsDecided : Plan → Asked → ℕ → Type 0
IsDecided plan a k = IsFalse (repeats_z plan a k) → LevelPasses plan a k

-- or neither
pub record FailsAt (plan : Plan) (a : Asked) (k : ℕ) : Type 0 where
  pub level : IsFalse (repeats_z plan a k)
  pub fails : LevelFails plan a k
