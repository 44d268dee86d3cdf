-- A level's numbers in file shape, row by row.
use Rattle.std.specs.Prelude.{ℕ, List, ℤ, pos, flat_map, map}
use Rattle.wf_model.specs.declared.plan.Plan.{Plan}
use Rattle.wf_model.specs.Plans.{up_to, point_x, point_y}
use Rattle.wf_model.specs.Streams.{file_x, file_y}
use Rattle.wf_grid.specs.Levels.{grids_of}

-- a row, by the numbers of its level and of its points from south
unfoldable pub file_row : Plan → ℕ → ℕ → List (List ℤ) → ℕ → ℕ → List ℤ
file_row plan d f lists k j =
    map (λ i. grids_of plan d lists d f k j (point_x plan d f (pos i))) (up_to (file_x plan d f))

-- the rows of a level in z
unfoldable pub file_plane : Plan → ℕ → ℕ → List (List ℤ) → ℕ → List ℤ
file_plane plan d f lists k =
    flat_map (λ j. file_row plan d f lists k (point_y plan d f (pos j))) (up_to (file_y plan d f))
