-- What the calls of a memory set, as settings of the definitions.
use Rattle.std.specs.Prelude.{ℕ, ◌==◌, nat_lt, List, ℤ, Some}
use Rattle.wf_model.specs.declared.plan.Plan.{Plan}
use Rattle.wf_model.specs.Grids.{grid_from}
use Rattle.wf_model.specs.Plans.{nx, ny, point_x, point_y}
use Rattle.wf_model.specs.Patches.{Cell}
use Rattle.wf_model.specs.Exchange.{same_cell}
use Rattle.wf_model.specs.PatchEffect.{Setting}
use Rattle.wf_model.specs.Kept.{level_kept}

-- the cell of a level at k, j and i
abbrev pub cell_at : ℕ → ℕ → ℤ → ℤ → Cell
cell_at f k j i = record { field = f; k = k; j = j; i = i }

-- one cell is set to a number
abbrev pub cell_setting : Cell → ℤ → Setting
cell_setting c v =
    record { sets = λ f k j i. same_cell c (cell_at f k j i); value = λ f k j i. Some v }

-- the number of the point that a cell of a level stands for, by the whole domain's list
abbrev pub point_number : Plan → ℕ → ℕ → List ℤ → Cell → ℤ
point_number plan d f list c =
    grid_from (ny plan d f) (nx plan d f) list c.k (point_y plan d f c.j) (point_x plan d f c.i)

-- all cells of a level are set to the numbers of the points that they stand for, of which this is
-- the whole domain's list
abbrev pub level_setting : Plan → ℕ → ℕ → List ℤ → Setting
level_setting plan d f list = record {
  sets = λ g k j i. g == f;
  value = λ g k j i. Some (point_number plan d f list (cell_at g k j i));
}

-- all cells of the first n levels are set so, of which these are the lists
abbrev pub levels_setting : Plan → ℕ → List (List ℤ) → ℕ → Setting
levels_setting plan d lists n = record {
  sets = λ f k j i. nat_lt f n;
  value = λ f k j i. Some (point_number plan d f (level_kept lists f) (cell_at f k j i));
}
