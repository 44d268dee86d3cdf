-- Weights that are the same at a domain weigh the same there.
use Rattle.std.proofs.Common.{◌≡◌, ℕ, ◌+◌, ◌*◌, Bool, true, false, refl, sym, ap, ◌∙◌, length}
use Rattle.std.specs.Prelude.{slice_index, nat_lt, ◌==◌, if◌then◌else◌}
use Rattle.std.specs.List.{range_with_len}
use Rattle.wf_model.specs.declared.plan.Plan.{Plan}
use Rattle.wf_model.specs.declared.script.Act.TheVariants.{Start, Force, Feedback, Table, Emit}
use Rattle.wf_model.specs.Plans.{domain_of}
use Rattle.wf_model.specs.Script.{restart_stream}
use Rattle.wf_model.specs.Counts.{own_steps, due_steps}
use Rattle.wf_laws.proofs.Bools.{equal_of}
use Rattle.wf_model.specs.Weights.{Weights, begins_at, run_seconds, restart_count, table_weight, start_frames_weight, due_frames_weight, nest_weight, parent_steps, domain_weight}
use Rattle.wf_count_laws.proofs.Sums.{sum-same}

-- they agree at each act that a domain has, and domain 1 has no act of a nest
pub record IsSameAt (v w : Weights) (d : ℕ) : Type 0 where
  pub start : ((d == 1) ≡ false) → v d Start ≡ w d Start
  pub force : ((d == 1) ≡ false) → v d Force ≡ w d Force
  pub feedback : ((d == 1) ≡ false) → v d Feedback ≡ w d Feedback
  pub table : (n : ℕ) → v d (Table n) ≡ w d (Table n)
  pub emit : (s : ℕ) → v d (Emit s) ≡ w d (Emit s)

module _ (plan : Plan) (v w : Weights) (d : ℕ) (same : IsSameAt v w d) where
  tables : table_weight plan v d ≡ table_weight plan w d
  tables = sum-same (λ n. v d (Table n)) (λ n. w d (Table n)) (range_with_len 0 (length plan.items)) (λ n i. same.table n)

  start_frames_are : start_frames_weight plan v d ≡ start_frames_weight plan w d
  start_frames_are = sum-same (λ s. if nat_lt 0 (slice_index (domain_of plan d).intervals s) then v d (Emit s) else 0) (λ s. if nat_lt 0 (slice_index (domain_of plan d).intervals s) then w d (Emit s) else 0) (range_with_len 0 10)
      (λ s i. ap (λ (x : ℕ). if nat_lt 0 (slice_index (domain_of plan d).intervals s) then x else 0) (same.emit s))

  due_frames_are : (n : ℕ) → due_frames_weight plan v d n ≡ due_frames_weight plan w d n
  due_frames_are n = sum-same (λ s. due_steps (slice_index (domain_of plan d).intervals s) n * v d (Emit s)) (λ s. due_steps (slice_index (domain_of plan d).intervals s) n * w d (Emit s)) (range_with_len 0 10)
      (λ s i. ap (λ (x : ℕ). due_steps (slice_index (domain_of plan d).intervals s) n * x) (same.emit s))

  nests : ((d == 1) ≡ false) → nest_weight plan v d ≡ nest_weight plan w d
  nests nest = λ i. (if nat_lt (begins_at plan d) (run_seconds plan) then same.start nest i + start_frames_are i else 0) + parent_steps plan d * (same.force nest i + (if plan.feedback then same.feedback nest i else 0))

  begin_parts : (b : Bool) → (d == 1) ≡ b → (if b then start_frames_weight plan v 1 else nest_weight plan v d) ≡ (if b then start_frames_weight plan w 1 else nest_weight plan w d)
  begin_parts true e = let one : d ≡ 1 = equal_of d 1 e in ap (start_frames_weight plan v) (sym one) ∙ start_frames_are ∙ ap (start_frames_weight plan w) one
  begin_parts false e = nests e

  pub weight-same : domain_weight plan v d ≡ domain_weight plan w d
  unfolding domain_weight
  weight-same = λ i. own_steps plan d * tables i + due_frames_are (own_steps plan d) i + restart_count plan d * same.emit restart_stream i + begin_parts (d == 1) refl i
