-- How large a domain's weight can be.
use Rattle.std.proofs.Common.{◌≡◌, ◌⊎◌, inl, inr, ℕ, ◌+◌, ◌-◌, ◌*◌, ◌/◌, ◌%◌, ◌<◌, ◌≤◌, Bool, true, false, length, refl, sym, ap, ◌∙◌, arith}
use Rattle.std.proofs.lemmas.Nat.{div-add-mod', mul-le}
use Rattle.std.proofs.lemmas.Bool.Decides.{nat_tests}
use Rattle.std.proofs.lemmas.List.FromFn.{length-range_with_len}
use Rattle.std.specs.Prelude.{slice_index, nat_lt, ◌==◌, if◌then◌else◌}
use Rattle.std.specs.List.{range_with_len}
use Rattle.wf_model.specs.declared.plan.Plan.{Plan}
use Rattle.wf_model.specs.declared.script.Act.{Act}
use Rattle.wf_model.specs.declared.script.Act.TheVariants.{Start, Force, Feedback, Table, Emit}
use Rattle.wf_model.specs.Plans.{domain_of}
use Rattle.wf_model.specs.Script.{restart_stream}
use Rattle.wf_model.specs.Counts.{own_steps, due_steps}
use Rattle.wf_model.specs.Sound.{IsDomain}
use Rattle.wf_laws.proofs.Bools.{equal_of, equal_or_not, same_number}
use Rattle.wf_count_laws.proofs.Sums.{sum-most}
use Rattle.wf_model.specs.Weights.{Weights, begins_at, run_seconds, parent_seconds, parent_steps, restart_count, table_weight, start_frames_weight, due_frames_weight, nest_weight, nesting_weight, start_weight, domain_weight, HasDomainsInTime}
use Rattle.wf_count_laws.specs.Occurrences.{most_weight, WeightsAreBounded}

-- a quotient is no larger
quotient : (n k : ℕ) → 1 ≤ k → n / k ≤ n
quotient n k h =
    let all : n / k * k + n % k ≡ n = div-add-mod' n k in
    let low : n / k * 1 ≤ n / k * k = mul-le (n / k) 1 (n / k) k (omega arith) h in
    omega (arith, all, low)

some_due : (i n : ℕ) → due_steps i n ≤ n
some_due i n = one (i == 0) refl
  where
    one : (b : Bool) → (i == 0) ≡ b → (if b then 0 else n / i) ≤ n
    one true e = omega arith
    one false e = quotient n i (grind (arith, nat_tests))

choice : (b : Bool) (n m : ℕ) → n ≤ m → (if b then n else 0) ≤ m
choice true n m h = h
choice false n m h = omega arith

-- the products together
together : (table due rest start nest R n m : ℕ) → table ≤ R * (n * m) → due ≤ 10 * (R * m) → rest ≤ R * m → start ≤ 11 * m → nest ≤ R * (2 * m) → table + due + rest + (start + nest) ≤ (R * (n + 13) + 11) * m
together table due rest start nest R n m a b c d e =
    let all : (R * (n + 13) + 11) * m ≡ R * (n * m) + 13 * (R * m) + 11 * m = grind arith in
    let two : R * (2 * m) ≡ 2 * (R * m) = grind arith in
    omega (arith, a, b, c, d, e, all, two)

module _ (plan : Plan) (w : Weights) (d most : ℕ) (timed : HasDomainsInTime plan) (is : IsDomain plan d) (each : (act : Act) → w d act ≤ most) where
  abbrev R : ℕ
  R = run_seconds plan

  own : own_steps plan d ≤ R
  own = omega (arith, quotient (R - begins_at plan d) (domain_of plan d).seconds (timed.steps d is))

  first : plan.steps ≤ R
  first =
      let low : plan.steps * 1 ≤ plan.steps * (domain_of plan 1).seconds = mul-le plan.steps 1 plan.steps (domain_of plan 1).seconds (omega arith) (timed.steps 1 (omega arith, timed.some)) in
      omega (arith, low)

  tables : own_steps plan d * table_weight plan w d ≤ R * (length plan.items * most)
  tables =
      let all : table_weight plan w d ≤ length plan.items * most =
      omega (arith, sum-most (λ n. w d (Table n)) most (range_with_len 0 (length plan.items)) (λ n i. each (Table n)), ap (λ (n : ℕ). n * most) (length-range_with_len 0 (length plan.items))) in
      mul-le (own_steps plan d) (table_weight plan w d) R (length plan.items * most) own all

  due : due_frames_weight plan w d (own_steps plan d) ≤ 10 * (R * most)
  due = sum-most (λ s. due_steps (slice_index (domain_of plan d).intervals s) (own_steps plan d) * w d (Emit s)) (R * most) (range_with_len 0 10)
      (λ s i. mul-le (due_steps (slice_index (domain_of plan d).intervals s) (own_steps plan d)) (w d (Emit s)) R most (omega (arith, some_due (slice_index (domain_of plan d).intervals s) (own_steps plan d), own)) (each (Emit s)))

  rest : restart_count plan d * w d (Emit restart_stream) ≤ R * most
  rest = mul-le (restart_count plan d) (w d (Emit restart_stream)) R most (omega (arith, some_due plan.restart_steps plan.steps, first)) (each (Emit restart_stream))

  frames : start_frames_weight plan w d ≤ 10 * most
  frames = sum-most (λ s. if nat_lt 0 (slice_index (domain_of plan d).intervals s) then w d (Emit s) else 0) most (range_with_len 0 10)
      (λ s i. choice (nat_lt 0 (slice_index (domain_of plan d).intervals s)) (w d (Emit s)) most (each (Emit s)))

  nesting : nesting_weight plan w d ≤ 2 * most
  nesting = omega (arith, each Force, choice plan.feedback (w d Feedback) most (each Feedback))

  -- what comes of its start, and of its parent's steps
  record IsBegun : Type 0 where
    start : ℕ
    nest : ℕ
    sum : (if d == 1 then start_frames_weight plan w 1 else nest_weight plan w d) ≡ start + nest
    start_most : start ≤ 11 * most
    nest_most : nest ≤ R * (2 * most)

  begun : (b : Bool) → (d == 1) ≡ b → IsBegun
  begun true e = record {
    start = start_frames_weight plan w d;
    nest = 0;
    sum = (λ i. if e i then start_frames_weight plan w 1 else nest_weight plan w d) ∙ ap (start_frames_weight plan w) (sym (equal_of d 1 e)) ∙ omega arith;
    start_most = omega (arith, frames);
    nest_most = omega arith;
  }
  begun false e =
      let nest : 1 < d = above (equal_or_not d 1) e in
      let some : 1 ≤ parent_seconds plan d = timed.steps (domain_of plan d).parent (timed.nests d nest is).parent in
      let steps : parent_steps plan d ≤ R = omega (arith, quotient (R - begins_at plan d) (parent_seconds plan d) some) in
      record {
        start = if nat_lt (begins_at plan d) R then start_weight plan w d else 0;
        nest = parent_steps plan d * nesting_weight plan w d;
        sum = λ i. if e i then start_frames_weight plan w 1 else nest_weight plan w d;
        start_most = choice (nat_lt (begins_at plan d) R) (start_weight plan w d) (11 * most) (omega (arith, each Start, frames));
        nest_most = mul-le (parent_steps plan d) (nesting_weight plan w d) R (2 * most) steps nesting;
      }
    where
      above : (d ≡ 1) ⊎ (d ≡ 1 → ⊥) → (d == 1) ≡ false → 1 < d
      above (inl e) off = absurd (both (d == 1) off (ap (λ (x : ℕ). x == 1) e ∙ same_number 1))
        where
          both : (b : Bool) → b ≡ false → b ≡ true → ⊥
          both b p q = grind arith
      above (inr o) off = omega (arith, o, is.0)

  bounded : domain_weight plan w d ≤ most_weight plan most
  unfolding domain_weight
  bounded =
      let x : IsBegun = begun (d == 1) refl in
      omega (
        arith,
        x.sum,
        together (own_steps plan d * table_weight plan w d) (due_frames_weight plan w d (own_steps plan d)) (restart_count plan d * w d (Emit restart_stream)) x.start x.nest R (length plan.items) most
            tables due rest x.start_most x.nest_most,
      )

pub weights_are_bounded : WeightsAreBounded
weights_are_bounded plan w d most timed is each = bounded plan w d most timed is each
