-- What an expression's value depends on, and what the list of a grid holds.
use Rattle.std.specs.Prelude.{◌≡◌, ℕ, ◌+◌, ◌-◌, ◌*◌, ◌≤◌, length, pos, slice_index_or}
use Rattle.std.specs.List.{All}
use Rattle.wf_model.specs.declared.expr.Expr.{Expr}
use Rattle.wf_model.specs.declared.plan.Plan.{Plan}
use Rattle.wf_model.specs.Value.{Sight, Answers, value_of}
use Rattle.wf_model.specs.Reads.{reads_of}
use Rattle.wf_model.specs.Plans.{nx, ny, nz}
use Rattle.wf_model.specs.Grids.{Grids, grid_from, level_list}

-- two sights show an expression the same point, the same step, and the same number at each of
-- its reads
pub record ShowAlike (x : Expr) (s t : Sight) : Type 0 where
  pub i : s.i ≡ t.i
  pub j : s.j ≡ t.j
  pub k : s.k ≡ t.k
  pub step : s.step ≡ t.step
  pub reads : All (λ rd.
      s.read rd.field rd.di rd.dk rd.dj ≡ t.read rd.field rd.di rd.dk rd.dj) (reads_of x)

-- then it has one value, or overflows for both
abbrev pub ValueDependsOnItsReads : Type 0
ValueDependsOnItsReads =
    (m : Answers) (x : Expr) (s t : Sight) → ShowAlike x s t → value_of m s x ≡ value_of m t x

-- a level's list has as many numbers as the level has points
abbrev pub ListHasEachPointOnce : Type 0
ListHasEachPointOnce = (plan : Plan) (d f : ℕ) (g : Grids) →
    length (level_list plan d f g) ≡ nz plan f * (ny plan d f * nx plan d f)

-- the number of the point at k, j and i stands at its place in order k, j, i
abbrev pub ListHasPointsInOrder : Type 0
ListHasPointsInOrder =
    (plan : Plan) (d f : ℕ) (g : Grids) (k j i : ℕ) → (1 ≤ k) × (k ≤ nz plan f) →
    (1 ≤ j) × (j ≤ ny plan d f) → (1 ≤ i) × (i ≤ nx plan d f) →
    slice_index_or (level_list plan d f g)
    (((k - 1) * ny plan d f + (j - 1)) * nx plan d f + (i - 1)) (pos 0) ≡ g d f k j i

-- the grid of a level's list is the level's grid, at each of its points
abbrev pub GridOfTheListIsTheGrid : Type 0
GridOfTheListIsTheGrid =
    (plan : Plan) (d f : ℕ) (g : Grids) (k j i : ℕ) → (1 ≤ k) × (k ≤ nz plan f) →
    (1 ≤ j) × (j ≤ ny plan d f) → (1 ≤ i) × (i ≤ nx plan d f) →
    grid_from (ny plan d f) (nx plan d f) (level_list plan d f g) k j i ≡ g d f k j i
