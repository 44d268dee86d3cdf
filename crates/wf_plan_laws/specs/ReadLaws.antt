-- What the tests of reads leave: phases that read within the levels and the extents.
use Rattle.std.specs.Prelude.{◌≡◌, ℕ, ◌≤◌, List, length, ℤ, pos, None}
use Rattle.std.specs.List.{All}
use Rattle.wf_model.specs.declared.plan.Phase.{Phase}
use Rattle.wf_model.specs.declared.plan.Plan.{Plan}
use Rattle.wf_model.specs.Reading.{first_fault}
use Rattle.wf_model.specs.Plans.{nz}
use Rattle.wf_model.specs.PlanTests.{extent_at, phases, read_faults}
use Rattle.wf_model.specs.Reads.{Read, reads_of}
use Rattle.wf_model.specs.Sound.{IsLevel, IsSoundPhase}

-- these are the extents in z of the plan's levels, and each is at least 1
pub record AreExtents (plan : Plan) (zs : List ℤ) : Type 0 where
  pub same : (f : ℕ) → extent_at zs f ≡ pos (nz plan f)
  pub some : (f : ℕ) → IsLevel plan f → 1 ≤ nz plan f

-- a phase writes and reads levels that there are
pub record NamesLevels (plan : Plan) (ph : Phase) : Type 0 where
  pub writes : IsLevel plan ph.writes
  pub reads : All (λ (r : Read). IsLevel plan r.field) (reads_of ph.expr)

-- of a plan with a domain, where no test of reads fails, each phase is sound
abbrev pub ReadsAreSound : Type 0
ReadsAreSound =
    (plan : Plan) (zs : List ℤ) → AreExtents plan zs → 1 ≤ length plan.domains
    → All (NamesLevels plan) (phases plan.items)
    → first_fault (read_faults plan zs) ≡ None → All (IsSoundPhase plan) (phases plan.items)
