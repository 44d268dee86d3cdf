-- The items of the script against their limit.
use Rattle.std.proofs.Common.{◌≡◌, ℕ, ◌+◌, ◌-◌, ◌*◌, ◌^◌, ◌<◌, ◌≤◌, Bool, true, false, List, [], ◌∷◌, ◌++◌, map, length, Option, Some, None, refl, sym, ap, ◌∙◌, arith}
use Rattle.std.proofs.lemmas.Bool.Decides.{nat_tests}
use Rattle.std.specs.Prelude.{flat_map, filter, pos, slice_index, slice_index_or, ◌&&◌, if◌then◌else◌, nat_lt}
use Rattle.std.specs.List.{range_with_len}
use Rattle.wf_model.specs.declared.plan.Plan.{Plan}
use Rattle.wf_model.specs.declared.plan_fault.PlanFault.{PlanFault}
use Rattle.wf_model.specs.declared.plan_fault.PlanFault.TheVariants.{Limit}
use Rattle.wf_model.specs.declared.plan_fault.Which.TheVariants as which
use Rattle.wf_model.specs.declared.script.Act.TheVariants.{Emit}
use Rattle.wf_model.specs.Plans.{domain_of, begin_of, up_to, no_begin, no_domain}
use Rattle.wf_model.specs.Reading.{fault_if}
use Rattle.wf_model.specs.Script.{entry, step_of, script_of, start_frames}
use Rattle.wf_model.specs.Counts.{fresh_begin, fresh_begins, fresh_script, more_restarts, script_items}
use Rattle.wf_counts.specs.Capped.{capped}
use Rattle.wf_plan_limits.specs.LimitParts.{script_limit}

-- ---- what stops at the greatest number of 128 bits is judged as the number itself

not_past : (n items : ℕ) → items ≡ capped n → items ≤ 1000000 → nat_lt 1000000 n ≡ false
unfolding capped
not_past n items is few = let low : n ≤ 1000000 = omega arith in grind (arith, nat_tests)

is_past : (n items : ℕ) → items ≡ capped n → items < 2 ^ 127 → items ≡ n
unfolding capped
is_past n items is fits = omega arith

pub within : (plan : Plan) (items : ℕ) → items ≡ capped (script_items plan) → items ≤ 1000000 → None ≡ script_limit plan
within plan items is few =
    let test : nat_lt 1000000 (script_items plan) ≡ false = not_past (script_items plan) items is few in
    sym (λ i. fault_if (test i) (Limit which.Script (pos (script_items plan))))

above : (n : ℕ) → 1000000 < n → nat_lt 1000000 n ≡ true
above n more = grind (arith, nat_tests)

pub past : (plan : Plan) (items : ℕ) (fault : Option PlanFault) → items ≡ capped (script_items plan) → 1000000 < items → items < 2 ^ 127
    → fault ≡ Some (Limit which.Script (pos items)) → fault ≡ script_limit plan
past plan items fault is more fits told =
    told
    ∙ sym (λ i. fault_if (above items more i) (Limit which.Script (pos items)))
    ∙ ap (λ (n : ℕ). fault_if (nat_lt 1000000 n) (Limit which.Script (pos n))) (is_past (script_items plan) items is fits)

-- ---- a plan without a domain has none

empty : {X : Type 0} (xs : List X) → length xs ≡ 0 → xs ≡ []
empty [] none = refl
empty (x ∷ xs) none = absurd (omega arith)

nothing_of : {X A : Type 0} (f : X → List A) (xs : List X) → ((x : X) → f x ≡ []) → flat_map f xs ≡ []
nothing_of f [] none = refl
nothing_of f (x ∷ xs) none = λ i. none x i ++ nothing_of f xs none i

pub no-script : (plan : Plan) → length plan.domains ≡ 0 → script_items plan ≡ 0
unfolding fresh_script script_of step_of begin_of domain_of no_begin no_domain
no-script plan none =
    let steps : flat_map (λ n. step_of plan (fresh_begins plan) (length plan.domains) 1 (n * (domain_of plan 1).seconds)) (range_with_len 0 plan.steps) ≡ []
    = (λ i. flat_map (λ n. step_of plan (fresh_begins plan) (none i) 1 (n * (domain_of plan 1).seconds)) (range_with_len 0 plan.steps))
    ∙ nothing_of (λ n. step_of plan (fresh_begins plan) 0 1 (n * (domain_of plan 1).seconds)) (range_with_len 0 plan.steps) (λ n. refl) in
    let resumed : (begin_of (fresh_begins plan) 1).resumed ≡ false = λ i. (begin_of (map (λ d. fresh_begin) (up_to (none i))) 1).resumed in
    let start : start_frames plan (fresh_begins plan) 1 0 ≡ [] = λ i. map (λ s. entry 1 0 0 (Emit s)) (filter (λ s. nat_lt 0 (slice_index (slice_index_or (empty plan.domains none i) 0 no_domain).intervals s)) (range_with_len 0 10)) in
    (λ i. length ((if resumed i then [] else start i) ++ steps i) + more i)
  where
    zero_both : (b : Bool) → ◌≡◌ {A = ℕ} (if b then 0 else 0) 0
    zero_both true = refl
    zero_both false = refl

    more : more_restarts plan ≡ 0
    more = (λ i. if plan.restart && nat_lt 0 plan.restart_steps then none i else 0) ∙ zero_both (plan.restart && nat_lt 0 plan.restart_steps)
