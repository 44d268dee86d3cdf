-- How often each item of a domain comes.
use Rattle.std.proofs.Common.{◌≡◌, inl, inr, ℕ, ◌+◌, ◌*◌, Bool, true, false, cond, length, refl, sym, ap, ◌∙◌, arith}
use Rattle.std.proofs.lemmas.Bool.{cases_lt}
use Rattle.std.proofs.lemmas.Bool.Decides.{nat_tests}
use Rattle.std.specs.Prelude.{sum_by, slice_index, nat_lt, ◌==◌, ◌&&◌, ◌||◌, if◌then◌else◌}
use Rattle.std.specs.List.{range_with_len}
use Rattle.wf_model.specs.declared.plan.Plan.{Plan}
use Rattle.wf_model.specs.declared.script.Act.{Act}
use Rattle.wf_model.specs.declared.script.Act.TheVariants.{Start, Force, Feedback, Table, Emit}
use Rattle.wf_model.specs.Plans.{domain_of, domains_of}
use Rattle.wf_model.specs.Script.{restart_stream}
use Rattle.wf_model.specs.Streams.{one_if}
use Rattle.wf_model.specs.Counts.{own_steps, due_steps}
use Rattle.wf_laws.proofs.Bools.{equal_of, equal_or_not, same_number, unlike, if_true, if_false}
use Rattle.wf_laws.proofs.Members.{In-range_out}
use Rattle.wf_model.specs.Weights.{Weights, parent_steps, restart_count, table_weight, start_frames_weight, due_frames_weight, nesting_weight, nest_weight, domain_weight}
use Rattle.wf_count_laws.specs.Occurrences.{is_act, begins_within, frames_of_stream, act_count, ItemsComeSoOften}
use Rattle.wf_count_laws.proofs.Sums.{sum-same, sum-zeros, sum-one}
use Rattle.wf_count_laws.proofs.SameWeights.{weight-same}
use Rattle.wf_count_laws.proofs.ScriptWeights.{weighs}

-- of a range one number is picked, if it is there
pick : (f : ℕ → ℕ) (s n : ℕ) → sum_by (λ x. f x * one_if (x == s)) (range_with_len 0 n) ≡ (if nat_lt s n then f s else 0)
pick f s n = elim (cases_lt s n) [
  | inl there ↦
      sum-same (λ x. f x * one_if (x == s)) (λ x. if s == x then f s else 0) (range_with_len 0 n) (λ x i. one x)
      ∙ sum-one s (f s) 0 n (omega arith) (omega (arith, there))
      ∙ sym (if_true (nat_lt s n) (f s) 0 (grind (arith, nat_tests)))
  | inr past ↦
      sum-zeros (λ x. f x * one_if (x == s)) (range_with_len 0 n) (λ x i. let l = In-range_out x 0 n i in off x (λ e. omega (arith, l.1, e, past)))
      ∙ sym (if_false (nat_lt s n) (f s) 0 (grind (arith, nat_tests)))
]
  where
    off : (x : ℕ) → (s ≡ x → ⊥) → f x * one_if (x == s) ≡ 0
    off x o = ap (λ (b : Bool). f x * one_if b) (unlike x s o) ∙ omega arith

    one : (x : ℕ) → f x * one_if (x == s) ≡ (if s == x then f s else 0)
    one x = elim (equal_or_not s x) [
      | inl e ↦ ap (λ (y : ℕ). f y * one_if (y == s)) (sym e) ∙ ap (λ (b : Bool). f s * one_if b) (same_number s) ∙ once (f s) ∙ sym (if_true (s == x) (f s) 0 (ap (λ (y : ℕ). s == y) (sym e) ∙ same_number s))
      | inr o ↦ off x o ∙ sym (if_false (s == x) (f s) 0 (unlike s x (λ e. o (sym e))))
    ]
      where
        once : (n : ℕ) → n * 1 ≡ n
        once n = omega arith

module _ (plan : Plan) (d : ℕ) where
  -- what a domain weighs, by its parts
  abbrev parts : ℕ → ℕ → ℕ → ℕ → ℕ → ℕ → ℕ → ℕ
  parts table frames due restart start force back =
      own_steps plan d * table + due + restart_count plan d * restart
      + (if d == 1 then frames else ((if begins_within plan d then start + frames else 0) + parent_steps plan d * (force + (if plan.feedback then back else 0))))

  by_parts : (w : Weights) (table frames due : ℕ) → table_weight plan w d ≡ table → start_frames_weight plan w d ≡ frames → due_frames_weight plan w d (own_steps plan d) ≡ due →
      domain_weight plan w d ≡ parts table frames due (w d (Emit restart_stream)) (w d Start) (w d Force) (w d Feedback)
  unfolding domain_weight
  by_parts w table frames due table_is frames_are due_are =
      λ i. own_steps plan d * table_is i + due_are i + restart_count plan d * w d (Emit restart_stream) + begin_is (d == 1) refl i
    where
      begin_is : (b : Bool) → (d == 1) ≡ b → (if b then start_frames_weight plan w 1 else nest_weight plan w d) ≡ (if b then frames else ((if begins_within plan d then w d Start + frames else 0) + parent_steps plan d * nesting_weight plan w d))
      begin_is true e = ap (start_frames_weight plan w) (sym (equal_of d 1 e)) ∙ frames_are
      begin_is false e = λ i. (if begins_within plan d then w d Start + frames_are i else 0) + parent_steps plan d * nesting_weight plan w d

  no_times : (n : ℕ) → n * 0 ≡ 0
  no_times n = omega arith

  either_way : (b : Bool) → ◌≡◌ {A = ℕ} (if b then 0 else 0) 0
  either_way true = refl
  either_way false = refl

  -- weights that an emit has not
  no_frames : (w : Weights) → ((s : ℕ) → w d (Emit s) ≡ 0) → start_frames_weight plan w d ≡ 0
  no_frames w none = sum-zeros (λ s. if nat_lt 0 (slice_index (domain_of plan d).intervals s) then w d (Emit s) else 0) (range_with_len 0 10)
      (λ s i. ap (λ (x : ℕ). if nat_lt 0 (slice_index (domain_of plan d).intervals s) then x else 0) (none s) ∙ either_way (nat_lt 0 (slice_index (domain_of plan d).intervals s)))

  no_due : (w : Weights) → ((s : ℕ) → w d (Emit s) ≡ 0) → due_frames_weight plan w d (own_steps plan d) ≡ 0
  no_due w none = sum-zeros (λ s. due_steps (slice_index (domain_of plan d).intervals s) (own_steps plan d) * w d (Emit s)) (range_with_len 0 10)
      (λ s i. ap (λ (x : ℕ). due_steps (slice_index (domain_of plan d).intervals s) (own_steps plan d) * x) (none s) ∙ no_times (due_steps (slice_index (domain_of plan d).intervals s) (own_steps plan d)))

  no_table : (w : Weights) → ((n : ℕ) → w d (Table n) ≡ 0) → table_weight plan w d ≡ 0
  no_table w none = sum-zeros (λ n. w d (Table n)) (range_with_len 0 (length plan.items)) (λ n i. none n)

  nothing : domain_weight plan (λ d act. 0) d ≡ 0
  nothing =
      by_parts (λ d act. 0) 0 0 0 (no_table (λ d act. 0) (λ n. refl)) (no_frames (λ d act. 0) (λ s. refl)) (no_due (λ d act. 0) (λ s. refl))
      ∙ sums (own_steps plan d) (restart_count plan d) (parent_steps plan d) (d == 1) (begins_within plan d) plan.feedback
    where
      sums : (own rest par : ℕ) (one in_run back : Bool) → own * 0 + 0 + rest * 0 + (if one then 0 else ((if in_run then 0 + 0 else 0) + par * (0 + (if back then 0 else 0)))) ≡ 0
      sums own rest par true in_run back = omega arith
      sums own rest par false true true = omega arith
      sums own rest par false true false = omega arith
      sums own rest par false false true = omega arith
      sums own rest par false false false = omega arith

  -- an item weighs 1 where it is this one
  abbrev alike : Act → Weights
  alike act x other = one_if (is_act other act)

  so_often : (act : Act) → domain_weight plan (alike act) d ≡ act_count plan d act
  so_often Start =
      by_parts (alike Start) 0 0 0 (no_table (alike Start) (λ n. refl)) (no_frames (alike Start) (λ s. refl)) (no_due (alike Start) (λ s. refl))
      ∙ sums (own_steps plan d) (restart_count plan d) (parent_steps plan d) (d == 1) (begins_within plan d) plan.feedback
    where
      sums : (own rest par : ℕ) (one in_run back : Bool) → own * 0 + 0 + rest * 0 + (if one then 0 else ((if in_run then 1 + 0 else 0) + par * (0 + (if back then 0 else 0)))) ≡ (if one then 0 else one_if in_run)
      sums own rest par true in_run back = omega arith
      sums own rest par false true true = omega arith
      sums own rest par false true false = omega arith
      sums own rest par false false true = omega arith
      sums own rest par false false false = omega arith
  so_often Force =
      by_parts (alike Force) 0 0 0 (no_table (alike Force) (λ n. refl)) (no_frames (alike Force) (λ s. refl)) (no_due (alike Force) (λ s. refl))
      ∙ sums (own_steps plan d) (restart_count plan d) (parent_steps plan d) (d == 1) (begins_within plan d) plan.feedback
    where
      sums : (own rest par : ℕ) (one in_run back : Bool) → own * 0 + 0 + rest * 0 + (if one then 0 else ((if in_run then 0 + 0 else 0) + par * (1 + (if back then 0 else 0)))) ≡ (if one then 0 else par)
      sums own rest par true in_run back = omega arith
      sums own rest par false true true = omega arith
      sums own rest par false true false = omega arith
      sums own rest par false false true = omega arith
      sums own rest par false false false = omega arith
  so_often Feedback =
      by_parts (alike Feedback) 0 0 0 (no_table (alike Feedback) (λ n. refl)) (no_frames (alike Feedback) (λ s. refl)) (no_due (alike Feedback) (λ s. refl))
      ∙ sums (own_steps plan d) (restart_count plan d) (parent_steps plan d) (d == 1) (begins_within plan d) plan.feedback
    where
      sums : (own rest par : ℕ) (one in_run back : Bool) → own * 0 + 0 + rest * 0 + (if one then 0 else ((if in_run then 0 + 0 else 0) + par * (0 + (if back then 1 else 0)))) ≡ (if one then 0 else (if back then par else 0))
      sums own rest par true in_run back = omega arith
      sums own rest par false true true = omega arith
      sums own rest par false true false = omega arith
      sums own rest par false false true = omega arith
      sums own rest par false false false = omega arith
  so_often (Table n) =
      by_parts (alike (Table n)) (if nat_lt n (length plan.items) then 1 else 0) 0 0
      (sum-same (λ m. one_if (m == n)) (λ m. 1 * one_if (m == n)) (range_with_len 0 (length plan.items)) (λ m i. omega arith) ∙ pick (λ m. 1) n (length plan.items))
      (no_frames (alike (Table n)) (λ s. refl)) (no_due (alike (Table n)) (λ s. refl))
      ∙ sums (own_steps plan d) (restart_count plan d) (parent_steps plan d) (nat_lt n (length plan.items)) (d == 1) (begins_within plan d) plan.feedback
    where
      rest_none : (own rest par : ℕ) (one in_run back : Bool) → 0 + rest * 0 + (if one then 0 else ((if in_run then 0 + 0 else 0) + par * (0 + (if back then 0 else 0)))) ≡ 0
      rest_none own rest par true in_run back = omega arith
      rest_none own rest par false true true = omega arith
      rest_none own rest par false true false = omega arith
      rest_none own rest par false false true = omega arith
      rest_none own rest par false false false = omega arith

      sums : (own rest par : ℕ) (there one in_run back : Bool) → own * (if there then 1 else 0) + 0 + rest * 0 + (if one then 0 else ((if in_run then 0 + 0 else 0) + par * (0 + (if back then 0 else 0)))) ≡ (if there then own else 0)
      sums own rest par true one in_run back = omega (arith, rest_none own rest par one in_run back)
      sums own rest par false one in_run back = omega (arith, rest_none own rest par one in_run back)
  so_often (Emit s) =
      by_parts (alike (Emit s)) 0 (if nat_lt s 10 then one_if (nat_lt 0 (slice_index (domain_of plan d).intervals s)) else 0) (if nat_lt s 10 then due_steps (slice_index (domain_of plan d).intervals s) (own_steps plan d) else 0)
      (no_table (alike (Emit s)) (λ n. refl))
      (sum-same (λ x. if nat_lt 0 (slice_index (domain_of plan d).intervals x) then one_if (x == s) else 0) (λ x. one_if (nat_lt 0 (slice_index (domain_of plan d).intervals x)) * one_if (x == s)) (range_with_len 0 10)
      (λ x i. as_product (nat_lt 0 (slice_index (domain_of plan d).intervals x)) (one_if (x == s)))
      ∙ pick (λ x. one_if (nat_lt 0 (slice_index (domain_of plan d).intervals x))) s 10)
      (pick (λ x. due_steps (slice_index (domain_of plan d).intervals x) (own_steps plan d)) s 10)
      ∙ elim (equal_or_not s 10) [
        | inl e ↦
            sums_restart (own_steps plan d) (restart_count plan d) (parent_steps plan d) (one_if (nat_lt 0 (slice_index (domain_of plan d).intervals s))) (due_steps (slice_index (domain_of plan d).intervals s) (own_steps plan d)) (nat_lt s 10) (restart_stream == s) (d == 1) (begins_within plan d) plan.feedback
            (grind (arith, nat_tests)) (ap (λ (x : ℕ). 10 == x) e)
            ∙ sym (if_true (s == restart_stream) (restart_count plan d) (if nat_lt s 10 then frames_of_stream plan d s else 0) (ap (λ (x : ℕ). x == 10) e))
        | inr o ↦
            sums_stream (own_steps plan d) (restart_count plan d) (parent_steps plan d) (one_if (nat_lt 0 (slice_index (domain_of plan d).intervals s))) (due_steps (slice_index (domain_of plan d).intervals s) (own_steps plan d)) (nat_lt s 10) (restart_stream == s) (d == 1) (begins_within plan d) plan.feedback
            (unlike 10 s o)
            ∙ sym (if_false (s == restart_stream) (restart_count plan d) (if nat_lt s 10 then frames_of_stream plan d s else 0) (unlike s 10 (λ e. o (sym e))))
      ]
    where
      as_product : (b : Bool) (n : ℕ) → (if b then n else 0) ≡ one_if b * n
      as_product true n = omega arith
      as_product false n = omega arith

      sums_restart : (own rest par used due : ℕ) (low is one in_run back : Bool) → low ≡ false → is ≡ true →
          own * 0 + (if low then due else 0) + rest * one_if is + (if one then (if low then used else 0) else ((if in_run then 0 + (if low then used else 0) else 0) + par * (0 + (if back then 0 else 0)))) ≡ rest
      sums_restart own rest par used due true is one in_run back l e = absurd (grind arith)
      sums_restart own rest par used due false false one in_run back l e = absurd (grind arith)
      sums_restart own rest par used due false true true in_run back l e = omega arith
      sums_restart own rest par used due false true false true true l e = omega arith
      sums_restart own rest par used due false true false true false l e = omega arith
      sums_restart own rest par used due false true false false true l e = omega arith
      sums_restart own rest par used due false true false false false l e = omega arith

      sums_stream : (own rest par used due : ℕ) (low is one in_run back : Bool) → is ≡ false →
          own * 0 + (if low then due else 0) + rest * one_if is + (if one then (if low then used else 0) else ((if in_run then 0 + (if low then used else 0) else 0) + par * (0 + (if back then 0 else 0)))) ≡ (if low then (if one || in_run then used else 0) + due else 0)
      sums_stream own rest par used due low true one in_run back e = absurd (grind arith)
      sums_stream own rest par used due true false true in_run back e = omega arith
      sums_stream own rest par used due true false false true true e = omega arith
      sums_stream own rest par used due true false false true false e = omega arith
      sums_stream own rest par used due true false false false true e = omega arith
      sums_stream own rest par used due true false false false false e = omega arith
      sums_stream own rest par used due false false true in_run back e = omega arith
      sums_stream own rest par used due false false false true true e = omega arith
      sums_stream own rest par used due false false false true false e = omega arith
      sums_stream own rest par used due false false false false true e = omega arith
      sums_stream own rest par used due false false false false false e = omega arith

-- of all weights those of one item of one domain
abbrev only : ℕ → Act → Weights
only d act x other = cond ((x == d) && is_act other act) 1 0

module _ (plan : Plan) (d : ℕ) (act : Act) where
  here : (other : Act) → only d act d other ≡ alike plan d act d other
  here other = ap (λ (b : Bool). cond (b && is_act other act) 1 0) (same_number d)

  elsewhere : (x : ℕ) → (d ≡ x → ⊥) → (other : Act) → only d act x other ≡ 0
  elsewhere x o other = ap (λ (b : Bool). cond (b && is_act other act) 1 0) (unlike x d o)

  in_one : (x : ℕ) → domain_weight plan (only d act) x ≡ (if d == x then domain_weight plan (alike plan d act) d else 0)
  in_one x = elim (equal_or_not d x) [
    | inl e ↦
        ap (domain_weight plan (only d act)) (sym e)
        ∙ weight-same plan (only d act) (alike plan d act) d (record { start = λ n. here Start; force = λ n. here Force; feedback = λ n. here Feedback; table = λ n. here (Table n); emit = λ s. here (Emit s) })
        ∙ sym (if_true (d == x) (domain_weight plan (alike plan d act) d) 0 (ap (λ (y : ℕ). d == y) (sym e) ∙ same_number d))
    | inr o ↦
        weight-same plan (only d act) (λ y other. 0) x (record { start = λ n. elsewhere x o Start; force = λ n. elsewhere x o Force; feedback = λ n. elsewhere x o Feedback; table = λ n. elsewhere x o (Table n); emit = λ s. elsewhere x o (Emit s) })
        ∙ nothing plan x
        ∙ sym (if_false (d == x) (domain_weight plan (alike plan d act) d) 0 (unlike d x (λ e. o (sym e))))
  ]

pub items_come : ItemsComeSoOften
items_come plan d act timed is =
    weighs plan (only d act) timed
    ∙ sum-same (domain_weight plan (only d act)) (λ x. if d == x then domain_weight plan (alike plan d act) d else 0) (domains_of plan) (λ x i. in_one plan d act x)
    ∙ sum-one d (domain_weight plan (alike plan d act) d) 1 (length plan.domains) is.0 (omega (arith, is.1))
    ∙ so_often plan d act
