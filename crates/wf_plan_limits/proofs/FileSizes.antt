-- The sizes of files against their limit.
use Rattle.std.proofs.Common.{◌≡◌, ℕ, ◌+◌, ◌-◌, ◌^◌, ◌<◌, ◌≤◌, true, false, Some, None, sym, ◌∙◌, arith}
use Rattle.std.proofs.lemmas.Bool.Decides.{nat_tests}
use Rattle.std.specs.Prelude.{nat_lt, min, pos, ◌==◌, slice_index, if◌then◌else◌}
use Rattle.wf_model.specs.declared.plan.Plan.{Plan}
use Rattle.wf_model.specs.declared.header.Header.{Header}
use Rattle.wf_model.specs.declared.plan_fault.PlanFault.TheVariants.{Limit}
use Rattle.wf_model.specs.declared.plan_fault.Which.TheVariants as which
use Rattle.wf_model.specs.Plans.{domain_of}
use Rattle.wf_model.specs.Headers.{file_header}
use Rattle.wf_model.specs.Sizes.{file_size, most_bytes}
use Rattle.wf_model.specs.Counts.{file_records, stream_bytes, own_steps, due_steps}
use Rattle.wf_model.specs.Reading.{fault_if}
use Rattle.wf_model.specs.PlanTests.{file_fault}

-- the records of a file of a stream that is not that of restart files
pub records-of_stream : (plan : Plan) (d stream due frames : ℕ) → (stream ≡ 10 → ⊥)
    → due ≡ due_steps (slice_index (domain_of plan d).intervals stream) (own_steps plan d) → frames ≡ slice_index (domain_of plan d).frames stream
    → file_records plan d stream ≡ min frames (1 + due)
records-of_stream plan d stream due frames other due_is frames_is =
    let history : (stream == 10) ≡ false = grind (arith, nat_tests) in
    (λ i. if history i then 1 else min (if history i then 1 else slice_index (domain_of plan d).frames stream) (1 + due_steps (slice_index (domain_of plan d).intervals stream) (own_steps plan d)))
    ∙ (λ i. min (sym frames_is i) (1 + sym due_is i))

not-past : (m n m' n' : ℕ) → m' ≡ m → n' ≡ n → (m' < n' → ⊥) → nat_lt m n ≡ false
not-past m n m' n' same_m same_n not = let most : n ≤ m = omega arith in grind (arith, nat_tests)

is-past : (m n m' n' : ℕ) → m' ≡ m → n' ≡ n → m' < n' → nat_lt m n ≡ true
is-past m n m' n' same_m same_n past = let more : m < n = omega arith in grind (arith, nat_tests)

exact : (bytes size n : ℕ) → size ≡ n → bytes ≡ min size (2 ^ 128 - 1) → bytes < 2 ^ 127 → bytes ≡ n
exact bytes size n same capped few = omega arith

-- ---- a file within its limit, and one past it

module _ (plan : Plan) (d stream : ℕ) (h : Header) (records : ℕ) (header_is : h ≡ file_header plan d stream plan.start 0) (records_are : records ≡ file_records plan d stream) where
  size-is : file_size h records ≡ stream_bytes plan d stream
  size-is = λ i. file_size (header_is i) (records_are i)

  most-is : most_bytes h.version ≡ most_bytes plan.version
  unfolding file_header
  most-is = λ i. most_bytes (header_is i).version

  pub within-fits : (most_bytes h.version < file_size h records → ⊥) → None ≡ file_fault plan d stream
  within-fits not_past =
      let test : nat_lt (most_bytes plan.version) (stream_bytes plan d stream) ≡ false = not-past _ _ _ _ most-is size-is not_past in
      sym (λ i. fault_if (test i) (Limit which.FileBytes (pos (stream_bytes plan d stream))))

  pub past-told : (bytes : ℕ) → most_bytes h.version < file_size h records → bytes ≡ min (file_size h records) (2 ^ 128 - 1) → bytes < 2 ^ 127
      → Some (Limit which.FileBytes (pos bytes)) ≡ file_fault plan d stream
  past-told bytes past capped few =
      let test : nat_lt (most_bytes plan.version) (stream_bytes plan d stream) ≡ true = is-past _ _ _ _ most-is size-is past in
      (λ i. Some (Limit which.FileBytes (pos (exact _ _ _ size-is capped few i))))
      ∙ sym (λ i. fault_if (test i) (Limit which.FileBytes (pos (stream_bytes plan d stream))))
