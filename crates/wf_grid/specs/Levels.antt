-- The lists of a domain's levels, and the grids that they stand for.
use Rattle.std.specs.Prelude.{◌≡◌, ℕ, ◌+◌, ◌-◌, ◌*◌, ◌≤◌, List, map, flat_map, length, ℤ, Option}
use Rattle.std.specs.Prelude.{Some, if◌then◌else◌, slice_index_or}
use Rattle.wf_model.specs.declared.plan.Plan.{Plan}
use Rattle.wf_model.specs.Plans.{domain_of, up_to, levels_of, nx, ny, nz}
use Rattle.wf_model.specs.Grids.{Grids, grid_from, level_list}
use Rattle.wf_model.specs.Changes.{Change, Spot}
use Rattle.wf_model.specs.Sound.{IsDomain, IsLevel}
use Rattle.wf_model.specs.Outcome.{no_list}

-- a point of a level with these extents
pub record IsPlaceIn (zs ys xs k j i : ℕ) : Type 0 where
  pub in_z : (1 ≤ k) × (k ≤ zs)
  pub in_y : (1 ≤ j) × (j ≤ ys)
  pub in_x : (1 ≤ i) × (i ≤ xs)

-- its place in the list of the level, from 0
abbrev pub place_in : ℕ → ℕ → ℕ → ℕ → ℕ → ℕ
place_in ys xs k j i = ((k - 1) * ys + (j - 1)) * xs + (i - 1)

-- the grids of the lists of a domain's levels
unfoldable pub grids_of : Plan → ℕ → List (List ℤ) → Grids
grids_of plan d lists n f = grid_from (ny plan d f) (nx plan d f) (slice_index_or lists f no_list)

-- the lists of a domain's levels in some grids
unfoldable pub lists_of : Plan → ℕ → Grids → List (List ℤ)
lists_of plan d g = map (λ f. level_list plan d f g) (levels_of plan)

-- a domain that has points, and a list for each level, with a number for each of its points
pub record AreLists (plan : Plan) (d : ℕ) (lists : List (List ℤ)) : Type 0 where
  pub domain : IsDomain plan d
  pub wide : 2 ≤ (domain_of plan d).ide
  pub high : 2 ≤ (domain_of plan d).jde
  pub levels : length lists ≡ length plan.fields
  pub each : (f : ℕ) → IsLevel plan f →
      length (slice_index_or lists f no_list) ≡ nz plan f * (ny plan d f * nx plan d f)

-- the points of a level, in the order of its list
unfoldable pub level_spots : Plan → ℕ → ℕ → List Spot
level_spots plan d f =
    flat_map (λ k. flat_map (λ j. map (λ i. record { field = f; k = k; j = j; i = i })
    (up_to (nx plan d f))) (up_to (ny plan d f))) (up_to (nz plan f))

-- the number of a point after a change; none is an overflow
abbrev pub number_after : Change → Grids → Spot → Option ℤ
number_after c g p = if c.sets p.field p.k p.j p.i then c.value p.field p.k p.j p.i
    else Some (g c.domain p.field p.k p.j p.i)
