-- Tests in stages: the first fault ends them.
use Rattle.std.proofs.Common.{◌≡◌, ℕ, suc, ◌+◌, ◌-◌, ◌<◌, ◌≤◌, Bool, true, false, List, [], ◌∷◌, ◌++◌, map, length, Option, Some, None, is_some, Result, Ok, Err, refl, sym, ap, ◌∙◌, arith, append_assoc}
use Rattle.std.specs.Prelude.{◌==◌, IfOk, OnOk, flat_map, nat_lt, ℤ, pos}
use Rattle.std.specs.List.{range_with_len}
use Rattle.std.specs.Option.{option_or}
use Rattle.std.proofs.lemmas.Bool.{false≢true}
use Rattle.std.proofs.lemmas.Bool.Decides.{nat_tests}
use Rattle.wf_model.specs.declared.plan.Plan.{Plan}
use Rattle.wf_model.specs.declared.plan_fault.PlanFault.{PlanFault}
use Rattle.wf_model.specs.declared.plan_fault.PlanFault.TheVariants.{Limit}
use Rattle.wf_model.specs.declared.plan_fault.Which.TheVariants as which
use Rattle.wf_model.specs.Plans.{up_to}
use Rattle.wf_model.specs.Reading.{fault_if, first_fault}
use Rattle.wf_model.specs.PlanTests.{extent_fault, limit_faults}
use Rattle.wf_model.specs.Counts.{script_items}
use Rattle.wf_model.proofs.ReadingLemmas.{first_fault-append}
use Rattle.wf_plan_limits.specs.LimitParts.{levels_limit, cells_limit, files_of, size_faults, run_faults}
use Rattle.wf_plan_limits.proofs.ScriptItems.{no-script}

-- a fault of the first stage stays
pub stays : {F : Type 0} (fault first rest : Option F) → fault ≡ first → is_some fault ≡ true → fault ≡ option_or first rest
stays None first rest is some = absurd (false≢true some)
stays (Some f) first rest is some = ap (λ o. option_or o rest) is

-- where it has none, the rest decides
pub goes_on : {F : Type 0} (fault first rest : Option F) → fault ≡ first → is_some fault ≡ false → rest ≡ option_or first rest
goes_on None first rest is none = ap (λ o. option_or o rest) is
goes_on (Some f) first rest is none = absurd (false≢true (sym none))

pub or_none : {F : Type 0} (fault : Option F) → fault ≡ option_or fault None
or_none None = refl
or_none (Some f) = refl

-- a count that is seen to be none
pub is_none : (count n : ℕ) → count ≡ n → (count == 0) ≡ true → n ≡ 0
is_none count n same test = grind (arith, nat_tests)

-- what holds of a result, holds of it as another fact
pub if_ok-along : {A E : Type 0} (r : Result A E) (P Q : A → Type 0) → ((a : A) → P a → Q a) → IfOk r P → IfOk r Q
if_ok-along (Ok a) P Q along holds = along a holds
if_ok-along (Err e) P Q along holds = tt

pub if_ok-both : {A E : Type 0} (r : Result A E) (S : Type 0) (P Q : A → Type 0) → (S → (a : A) → P a → Q a) → OnOk r S → IfOk r P → IfOk r Q
if_ok-both (Ok a) S P Q along fact holds = along fact a holds
if_ok-both (Err e) S P Q along fact holds = tt

-- ---- the same of lists

pub stays_in : {F : Type 0} (fault : Option F) (xs ys : List (Option F)) → fault ≡ first_fault xs → is_some fault ≡ true → fault ≡ first_fault (xs ++ ys)
stays_in fault xs ys is some = stays fault (first_fault xs) (first_fault ys) is some ∙ sym (first_fault-append xs ys)

pub goes_on_in : {F : Type 0} (fault : Option F) (xs ys : List (Option F)) → fault ≡ first_fault xs → is_some fault ≡ false → first_fault ys ≡ first_fault (xs ++ ys)
goes_on_in fault xs ys is none = goes_on fault (first_fault xs) (first_fault ys) is none ∙ sym (first_fault-append xs ys)

-- ---- tests by number, up to n

pub next_of : {F : Type 0} (test : ℕ → Option F) (i n : ℕ) → i < n →
    first_fault (map test (range_with_len i (n - i))) ≡ option_or (test i) (first_fault (map test (range_with_len (i + 1) (n - (i + 1)))))
next_of test i n less =
    let count : n - i ≡ suc (n - (i + 1)) = omega arith in
    λ k. first_fault (map test (range_with_len i (count k)))

pub none_left : {F : Type 0} (test : ℕ → Option F) (i n : ℕ) → n ≤ i → first_fault (map test (range_with_len i (n - i))) ≡ None
none_left test i n end =
    let count : n - i ≡ 0 = omega arith in
    λ k. first_fault (map test (range_with_len i (count k)))

-- ---- lists of tests by number, from 1 up to n, of which some are behind

abbrev pub first_left : {F : Type 0} → (ℕ → List (Option F)) → ℕ → ℕ → Option F
first_left f i n = first_fault (flat_map f (range_with_len (i + 1) (n - i)))

left_of : {F : Type 0} (f : ℕ → List (Option F)) (i n : ℕ) → i < n → first_left f i n ≡ option_or (first_fault (f (i + 1))) (first_left f (i + 1) n)
left_of f i n less =
    let count : n - i ≡ suc (n - (i + 1)) = omega arith in
    ap (λ (k : ℕ). first_fault (flat_map f (range_with_len (i + 1) k))) count ∙ first_fault-append (f (i + 1)) (flat_map f (range_with_len (i + 1 + 1) (n - (i + 1))))

pub met_at : {F : Type 0} (f : ℕ → List (Option F)) (i n : ℕ) (fault all : Option F)
    → i < n → fault ≡ first_fault (f (i + 1)) → is_some fault ≡ true → first_left f i n ≡ all → fault ≡ all
met_at f i n fault all less here some so_far = stays fault (first_fault (f (i + 1))) (first_left f (i + 1) n) here some ∙ sym (left_of f i n less) ∙ so_far

pub passed_at : {F : Type 0} (f : ℕ → List (Option F)) (i n : ℕ) (fault all : Option F)
    → i < n → fault ≡ first_fault (f (i + 1)) → is_some fault ≡ false → first_left f i n ≡ all → first_left f (i + 1) n ≡ all
passed_at f i n fault all less here none so_far = goes_on fault (first_fault (f (i + 1))) (first_left f (i + 1) n) here none ∙ sym (left_of f i n less) ∙ so_far

-- ---- the parts of the limits

pub limit_faults-parts : (plan : Plan) (zs : List ℤ) → size_faults plan zs ++ run_faults plan ≡ limit_faults plan zs
limit_faults-parts plan zs = append_assoc (levels_limit plan ∷ map extent_fault zs) (cells_limit plan ∷ []) (run_faults plan)

-- a plan without a domain has neither script nor files
pub run_faults-none : (plan : Plan) → length plan.domains ≡ 0 → first_fault (run_faults plan) ≡ None
run_faults-none plan none =
    let items : script_items plan ≡ 0 = no-script plan none in
    λ i. option_or (fault_if (nat_lt 1000000 (items i)) (Limit which.Script (pos (items i)))) (first_fault (flat_map (files_of plan) (up_to (none i))))

-- where no test of levels, extents and cells fails, there are few levels
pub levels-few : (plan : Plan) (zs : List ℤ) (fault : Option PlanFault) → fault ≡ first_fault (size_faults plan zs) → is_some fault ≡ false → length plan.fields ≤ 64
levels-few plan zs fault is none =
    let test : nat_lt 64 (length plan.fields) ≡ false = test-false (nat_lt 64 (length plan.fields)) _ _ fault is none in
    at_most 64 (length plan.fields) test
  where
    test-false : {F : Type 0} (b : Bool) (f : F) (rest fault : Option F) → fault ≡ option_or (fault_if b f) rest → is_some fault ≡ false → b ≡ false
    test-false false f rest fault is none = refl
    test-false true f rest fault is none = absurd (false≢true (sym none ∙ ap is_some is))

    at_most : (m n : ℕ) → nat_lt m n ≡ false → n ≤ m
    at_most m n test = grind (arith, nat_tests)
