-- The numbers of a level after a change, in the order of its list.
use Rattle.std.specs.Prelude.{◌≡◌, ℕ, ◌<◌, List, length, ℤ, pos, Option, Some, None, slice_index_or}
use Rattle.std.specs.Prelude.{is_none, false}
use Rattle.wf_model.specs.declared.plan.Plan.{Plan}
use Rattle.wf_model.specs.declared.plan.Phase.{Phase}
use Rattle.wf_model.specs.Plans.{nx, ny, nz}
use Rattle.wf_model.specs.Value.{Answers}
use Rattle.wf_model.specs.Changes.{Spot, phase_change}
use Rattle.wf_model.specs.declared.extents.Extents.{Extents}
use Rattle.wf_grid.specs.declared.extents.Here.{Here}
use Rattle.wf_grid.specs.Levels.{grids_of, level_spots, number_after}

-- the extents of a level
pub record AreExtents (plan : Plan) (d f : ℕ) (x : Extents) : Type 0 where
  pub columns : x.columns ≡ nx plan d f
  pub rows : x.rows ≡ ny plan d f
  pub levels : x.levels ≡ nz plan f

-- a point of a level
abbrev pub spot_of : ℕ → Here → Spot
spot_of f h = record { field = f; k = h.k; j = h.j; i = h.i }

-- the point at a place of a level's list
abbrev pub spot_at : Plan → ℕ → ℕ → ℕ → Spot
spot_at plan d f q =
    slice_index_or (level_spots plan d f) q (record { field = f; k = 0; j = 0; i = 0 })

-- the number at a point after a phase
abbrev pub phase_number : Plan → Answers → ℕ → List (List ℤ) → ℕ → Phase → Spot → Option ℤ
phase_number plan m d lists step ph p =
    number_after (phase_change plan m (grids_of plan d lists) d step ph) (grids_of plan d lists) p

-- the first n points of the written level have numbers, which stand in the list
abbrev pub IsFilled : Plan → Answers → ℕ → List (List ℤ) → ℕ → Phase → ℕ → List ℤ → Type 0
IsFilled plan m d lists step ph n numbers =
    (q : ℕ) → q < n → phase_number plan m d lists step ph (spot_at plan d ph.writes q)
    ≡ Some (slice_index_or numbers q (pos 0))

-- the point at a place has no number, and each before it has one
pub record IsStopped (plan : Plan) (m : Answers) (d : ℕ) (lists : List (List ℤ)) (step : ℕ)
    (ph : Phase) (n : ℕ) (p : Spot) : Type 0 where
  pub within : n < length (level_spots plan d ph.writes)
  pub spot : spot_at plan d ph.writes n ≡ p
  pub none : phase_number plan m d lists step ph p ≡ None
  pub before : (q : ℕ) → q < n →
      is_none (phase_number plan m d lists step ph (spot_at plan d ph.writes q)) ≡ false

-- the point is the first one without a number
abbrev pub StopsAt : Plan → Answers → ℕ → List (List ℤ) → ℕ → Phase → Spot → Type 0
StopsAt plan m d lists step ph p = (n : ℕ) × IsStopped plan m d lists step ph n p
