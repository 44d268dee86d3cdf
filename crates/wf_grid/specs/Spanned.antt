-- The points of a row that a phase sets, and the rows that were computed.
use Rattle.std.specs.Prelude.{◌≡◌, ℕ, ◌+◌, ◌*◌, ◌&&◌, Bool, ℤ, List}
use Rattle.wf_model.specs.declared.plan.Plan.{Plan}
use Rattle.wf_model.specs.declared.plan.Phase.{Phase}
use Rattle.wf_model.specs.Plans.{domain_of, nx, ny, nz, is_within, is_inside}
use Rattle.wf_model.specs.Value.{Answers}
use Rattle.wf_model.specs.Changes.{in_region, is_phase_level}
use Rattle.wf_grid.specs.declared.phase.Span.{Span}
use Rattle.wf_grid.specs.Levels.{place_in}
use Rattle.wf_grid.specs.Filled.{IsFilled}

-- a point behind the one, up to the other
abbrev pub is_spanned : Span → ℕ → Bool
is_spanned s x = is_within (s.after + 1) s.last x

-- those of a row that a phase sets
abbrev pub IsSpan : Plan → ℕ → Phase → ℕ → ℕ → Span → Type 0
IsSpan plan d ph k j s = (i : ℕ) → is_spanned s i ≡ in_region plan d ph k j i

-- a row of which a phase sets points, where it has some between the margins
abbrev pub is_phase_row : Plan → ℕ → Phase → ℕ → ℕ → Bool
is_phase_row plan d ph k j = is_phase_level plan ph k
    && is_inside (domain_of plan d).periodic_y ph.my (ny plan d ph.writes) j

-- as long as the list of a level
abbrev pub IsLevelLong : Plan → ℕ → ℕ → ℕ → Type 0
IsLevelLong plan d f n = n ≡ nz plan f * (ny plan d f * nx plan d f)

-- the numbers of all points before a row stand in the list
abbrev pub AreFilledTo : Plan → Answers → ℕ → List (List ℤ) → ℕ → Phase → ℕ → ℕ → List ℤ → Type 0
AreFilledTo plan m d lists step ph k j numbers = IsFilled plan m d lists step ph
    (place_in (ny plan d ph.writes) (nx plan d ph.writes) k j 1) numbers
