-- What a phase reads at a point of a domain.
use Rattle.std.specs.Prelude.{ℕ, ◌≤◌, All, IsTrue, pos, ◌+ℤ◌, ◌≤ℤ◌}
use Rattle.wf_model.specs.declared.plan.Phase.{Phase}
use Rattle.wf_model.specs.Changes.{in_region}
use Rattle.wf_model.specs.ExprFacts.{parts_of}
use Rattle.wf_model.specs.declared.plan.Plan.{Plan}
use Rattle.wf_model.specs.Plans.{field_of, nz, level_at}
use Rattle.wf_model.specs.Patches.{is_place}
use Rattle.wf_model.specs.Reads.{Read, reads_of}
use Rattle.wf_model.specs.Sound.{IsLevel}

-- a read that meets a point of a level of the domain
pub record IsReadable (plan : Plan) (d k j i : ℕ) (r : Read) : Type 0 where
  pub level : IsLevel plan r.field
  pub inside : IsTrue (is_place plan d r.field (pos j +ℤ r.dj) (pos i +ℤ r.di))
  pub levels : (1 ≤ level_at plan r.field k r.dk) × (level_at plan r.field k r.dk ≤ nz plan r.field)
  pub above : IsTrue (field_of plan r.field).z → pos 1 ≤ℤ (pos k +ℤ r.dk)

-- what a phase needs to be run in a domain
pub record IsRunnable (plan : Plan) (d : ℕ) (ph : Phase) : Type 0 where
  pub writes : IsLevel plan ph.writes
  -- no divisor is 0
  pub divisors : All (λ n. 1 ≤ n) (parts_of ph.expr).divisors
  -- each read at a point of the region meets a point of the domain
  pub reads : (k j i : ℕ) → IsTrue (in_region plan d ph k j i) →
      All (IsReadable plan d k j i) (reads_of ph.expr)
