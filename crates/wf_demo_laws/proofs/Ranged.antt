-- The demo's plan keeps the ranges and limits of plans, it uses no stored function, and what it begins with fits it.
use Rattle.std.proofs.Common.{◌≡◌, inl, ℕ, zero, suc, ◌+◌, ◌*◌, ◌-◌, ◌%◌, ◌<◌, ◌≤◌, ◌^◌, true, List, [], ◌∷◌, length, get_or, refl, sym, ap, ◌∙◌, subst, arith}
use Rattle.std.proofs.lemmas.Int.{ints}
use Rattle.std.proofs.Math.Nat.{mul-le-mul}
use Rattle.std.proofs.lemmas.Bool.Decides.{nat_tests}
use Rattle.std.proofs.lemmas.List.Elements.{All-cons}
use Rattle.std.proofs.lemmas.List.Sums.{AllPass-from_list_all}
use Rattle.std.specs.Prelude.{ℤ, pos, ◌≤ℤ◌, codes, nat_le, ◌&&◌}
use Rattle.std.specs.List.{All, list_all}
use Rattle.wf_model.specs.declared.plan.Plan.{Plan}
use Rattle.wf_model.specs.declared.plan.HaloPart.{HaloPart}
use Rattle.wf_model.specs.declared.plan.Item.TheVariants as item
use Rattle.wf_model.specs.declared.table.HookName.{HookName}
use Rattle.wf_model.specs.declared.expr.Expr.{fold-roll-Expr}
use Rattle.wf_model.specs.Plans.{domain_of, field_of, begin_of, no_begin, nz, nx as nx_of, ny as ny_of}
use Rattle.wf_model.specs.Calendar.{time_text, days_after}
use Rattle.wf_model.specs.Dates.{days_before, seconds_before, last_moment}
use Rattle.wf_model.specs.Calendar.{moment_of}
use Rattle.wf_model.specs.Reads.{Read, reads_of}
use Rattle.wf_model.specs.ExprFacts.{Parts, CallOf, nodes_of, depth_of, parts_of, IsRangedExpr, IsNearRead}
use Rattle.wf_model.specs.Ranges.{Within, IsRangedLayout, IsRangedDomain, IsRangedField, IsRangedPhase, IsRangedItem}
use Rattle.wf_model.specs.Sound.{IsSoundTime, IsWithinLimits, IsRangedPlan, IsSoundBegin, IsFittingInitial, IsHook, UsesHooks, CallsHooks, HasHooks}
use Rattle.wf_model.specs.DemoCase.{columns_layout, case_start, case_domain, case_field, demo_plan, demo_initial, demo_expr}
use Rattle.wf_model.specs.Counts.{fresh_script}
use Rattle.wf_model.specs.Script.{script_of}
use Rattle.wf_model.specs.Outcome.{no_list, no_lists}
use Rattle.wf_model.specs.declared.table.HookKind.TheVariants.{Call}
use Rattle.wf_laws.proofs.Listing.{length-rows, length-listed}
use Rattle.wf_demo_laws.specs.DemoLaws.{step_entries, DemoIsInRange}
use Rattle.wf_laws.proofs.Bools.{differ}
use Rattle.wf_demo_laws.proofs.Phase.{phase_of}
use Rattle.wf_demo_laws.proofs.Script.{fresh, fresh-steps}
use Rattle.wf_demo_laws.proofs.Accepted.{IsNear, reads_near, all_of, none_of, one_domain, one_level, halo_part}
use Rattle.wf_demo_laws.proofs.FileSizes.{files_fit}
use Rattle.wf_demo_laws.proofs.Columns.{margin_is}

-- what is counted of the demo's expression
nodes : nodes_of demo_expr ≡ 12
unfolding nodes_of
nodes = simp fold-roll-Expr refl

depth : depth_of demo_expr ≡ 7
unfolding depth_of
depth = simp fold-roll-Expr refl

parts : parts_of demo_expr ≡ record { divisors = 8 ∷ []; numbers = 4 ∷ []; calls = [] }
unfolding parts_of
parts = simp fold-roll-Expr refl

-- the last second that there is, and the start
last_second : seconds_before last_moment ≡ 315537897599
unfolding days_before
last_second = refl

start_second : seconds_before (moment_of case_start) ≡ 63082281600
unfolding days_before
start_second = refl

-- lists of numbers that stay below a limit, and from 1 on
all_at_most : (limit : ℕ) (xs : List ℕ) → list_all (λ n. nat_le n limit) xs ≡ true → All (λ n. n ≤ limit) xs
all_at_most limit xs h = all_of (λ n. nat_le n limit ≡ true) (λ n. n ≤ limit) xs (λ n t. grind (arith, nat_tests)) (AllPass-from_list_all (λ n. nat_le n limit) xs h)

all_within : (limit : ℕ) (xs : List ℕ) → list_all (λ n. nat_le 1 n && nat_le n limit) xs ≡ true → All (Within 1 limit) xs
all_within limit xs h = all_of (λ n. (nat_le 1 n && nat_le n limit) ≡ true) (Within 1 limit) xs (λ n t. (grind (arith, nat_tests), grind (arith, nat_tests))) (AllPass-from_list_all (λ n. nat_le 1 n && nat_le n limit) xs h)

-- its domain, its field, its expression and its phase keep their ranges
domain_ranged : (nx ny : ℕ) → 1 ≤ nx → nx < 2000 → 1 ≤ ny → ny < 2000 → IsRangedDomain (case_domain nx ny)
domain_ranged nx ny a b c d = record {
  ide = (omega arith, omega arith);
  jde = (omega arith, omega arith);
  kde = (omega arith, omega arith);
  i_start = (omega arith, omega arith);
  j_start = (omega arith, omega arith);
  ratio = (omega arith, omega arith);
  time_ratio = (omega arith, omega arith);
  seconds = (omega arith, omega arith);
  interval_count = refl;
  intervals = all_at_most (100000 * 60) (1 ∷ 0 ∷ 0 ∷ 0 ∷ 0 ∷ 0 ∷ 0 ∷ 0 ∷ 0 ∷ 0 ∷ []) refl;
  frame_count = refl;
  frames = all_within 100000 (1000 ∷ 1 ∷ 1 ∷ 1 ∷ 1 ∷ 1 ∷ 1 ∷ 1 ∷ 1 ∷ 1 ∷ []) refl;
}

field_ranged : IsRangedField (case_field (codes "t") (codes "T"))
field_ranged = record {
  name = refl;
  dname = refl;
  nz = (omega arith, omega arith);
  flat = λ h. refl;
  stag_z = λ h. h;
  streams = omega arith;
  x_name = refl;
  y_name = refl;
  z_name = λ h. absurd (differ (sym h));
  description = omega arith;
  units = omega arith;
}

near_read : (rd : Read) → IsNear rd → IsNearRead rd
near_read rd near = (omega (arith, ints), omega (arith, ints, near.level), omega (arith, ints))

expr_ranged : IsRangedExpr demo_expr
expr_ranged = record {
  nodes = omega (arith, nodes);
  depth = omega (arith, depth);
  divisors = subst (λ (p : Parts). All (λ n. (1 ≤ n) × (n < 2 ^ 63)) p.divisors) (sym parts) (All-cons (λ n. (1 ≤ n) × (n < 2 ^ 63)) 8 [] (omega arith, omega arith) (none_of (λ n. (1 ≤ n) × (n < 2 ^ 63))));
  numbers = subst (λ (p : Parts). All (λ n. n < 2 ^ 63) p.numbers) (sym parts) (All-cons (λ n. n < 2 ^ 63) 4 [] (omega arith) (none_of (λ n. n < 2 ^ 63)));
  calls = subst (λ (p : Parts). All (λ (c : CallOf). c.arguments ≤ 8) p.calls) (sym parts) (none_of (λ (c : CallOf). c.arguments ≤ 8));
  reads = all_of IsNear IsNearRead (reads_of demo_expr) near_read reads_near;
}

phase_ranged : IsRangedPhase phase_of
phase_ranged = record {
  name = refl;
  mx = omega arith;
  my = omega arith;
  levels = omega arith;
  top = omega arith;
  named = λ h. refl;
  extend = omega arith;
  expr = expr_ranged;
}

module _ (nx ny steps : ℕ) where
  abbrev plan : Plan
  plan = demo_plan nx ny steps

  -- its end is a moment that there is, and its counts are within the limits
  time_sound : steps ≤ 100000 → IsSoundTime plan
  unfolding domain_of
  time_sound h = record { start = refl; finish = omega (arith, last_second, start_second) }

  within_limits : nx < 2000 → ny < 2000 → steps ≤ 100000 → IsWithinLimits plan
  unfolding domain_of field_of fresh_script
  within_limits x y h = record {
    domains = omega arith;
    levels = omega arith;
    items = omega arith;
    margin = omega (arith, margin_is nx ny steps);
    cells =
        let width : nx + 1 - 1 + 0 ≡ nx = omega arith in
        let height : ny + 1 - 1 + 0 ≡ ny = omega arith in
        let few : ny * nx ≤ 2000 * 2000 = mul-le-mul {n₁ = ny} {m₁ = nx} {n₂ = 2000} {m₂ = 2000} (omega arith) (omega arith) in
        rw (width, height) (omega (arith, few));
    script =
        let long : length (script_of plan (fresh [])) ≡ suc (steps * 3) = ap length (fresh-steps nx ny steps []) ∙ ap suc (length-rows step_entries 3 (λ k. refl) 0 steps) in
        omega (arith, long);
  }

  -- the plan keeps all ranges and limits
  pub plan_ranged : 1 ≤ nx → nx < 2000 → 1 ≤ ny → ny < 2000 → steps ≤ 100000 → IsRangedPlan plan
  unfolding domain_of
  plan_ranged a b c d h = record {
    first = record { begins = refl; ratio = refl; time_ratio = refl };
    nests = λ k more is. absurd (omega (arith, one_domain nx ny steps k is));
    time = time_sound h;
    domains = All-cons IsRangedDomain (case_domain nx ny) [] (domain_ranged nx ny a b c d) (none_of IsRangedDomain);
    fields = All-cons IsRangedField (case_field (codes "t") (codes "T")) [] field_ranged (none_of IsRangedField);
    items = All-cons IsRangedItem (item.Halo (halo_part ∷ [])) (item.Phase phase_of ∷ []) (All-cons (λ (p : HaloPart). Within 1 6 p.radius) halo_part [] (omega arith, omega arith) (none_of (λ (p : HaloPart). Within 1 6 p.radius)))
        (All-cons IsRangedItem (item.Phase phase_of) [] phase_ranged (none_of IsRangedItem));
    bdy_width = (omega arith, omega arith);
    version = inl refl;
    limits = within_limits b d h;
  }

  -- it uses no stored function
  pub hooks_none : (hooks : List HookName) → HasHooks hooks plan
  hooks_none hooks = record {
    functions = All-cons (UsesHooks hooks) (case_field (codes "t") (codes "T")) [] (record { down = tt; edge = tt; up = tt }) (none_of (UsesHooks hooks));
    calls = All-cons (CallsHooks hooks) (item.Halo (halo_part ∷ [])) (item.Phase phase_of ∷ []) tt
        (All-cons (CallsHooks hooks) (item.Phase phase_of) [] (subst (λ (p : Parts). All (λ (c : CallOf). IsHook hooks c.id Call c.arguments) p.calls) (sym parts) (none_of (λ (c : CallOf). IsHook hooks c.id Call c.arguments)))
        (none_of (CallsHooks hooks)));
  }

  begin_sound : IsSoundBegin plan 1 (begin_of (demo_initial nx ny).begins 1)
  unfolding domain_of begin_of time_text days_after
  begin_sound = record { steps = omega arith; start_text = refl; resumes = λ h. absurd (differ (sym h)); own_start = λ h. refl }

  no_steps : (n : ℕ) → (get_or (demo_initial nx ny).begins n no_begin).steps ≡ 0
  unfolding no_begin
  no_steps zero = refl
  no_steps (suc n) = refl

  -- what it begins with fits it
  pub initial_fits : IsFittingInitial plan (demo_initial nx ny)
  unfolding domain_of begin_of field_of
  initial_fits = record {
    shape = record { domains = refl; levels = λ d is. subst (λ (e : ℕ). length (get_or (demo_initial nx ny).grids (e - 1) no_lists) ≡ length plan.fields) (sym (one_domain nx ny steps d is)) refl };
    begins = refl;
    sound = λ d is. subst (λ (e : ℕ). IsSoundBegin plan e (begin_of (demo_initial nx ny).begins e)) (sym (one_domain nx ny steps d is)) begin_sound;
    first = λ h. absurd (differ (sym h));
    fresh = λ d h. no_steps (d - 1);
    started = λ d is h. subst (λ (e : ℕ). pos 0 ≤ℤ (domain_of plan e).begins) (sym (one_domain nx ny steps d is)) (omega (arith, ints));
    lists = λ d f is level.
        let width : nx ≡ nx + 1 - 1 + 0 = omega arith in
        let height : ny ≡ ny + 1 - 1 + 0 = omega arith in
        let lists : List (List (List ℤ)) = (demo_initial nx ny).grids in
        let whole = length-listed 1 ny nx (λ k j i. pos ((37 * (i - 1) + 53 * (j - 1)) % 100)) ∙ (λ n. 1 * (height n * width n)) in
        subst (λ (e : ℕ). length (get_or (get_or lists (e - 1) no_lists) f no_list) ≡ nz plan f * (ny_of plan e f * nx_of plan e f)) (sym (one_domain nx ny steps d is))
        (subst (λ (g : ℕ). length (get_or (get_or lists (1 - 1) no_lists) g no_list) ≡ nz plan g * (ny_of plan 1 g * nx_of plan 1 g)) (sym (one_level nx ny steps f level)) whole);
  }

-- a layout by columns keeps its ranges
pub layout_ranged : (px : ℕ) → 1 ≤ px → px ≤ 256 → IsRangedLayout (columns_layout px)
layout_ranged px a b = record {
  nproc_x = (omega arith, omega arith);
  nproc_y = (omega arith, omega arith);
  patches = omega arith;
  tiles = (omega arith, omega arith);
  groups = (omega arith, omega arith);
  servers = (omega arith, omega arith);
  depth = (omega arith, omega arith);
  workers = (omega arith, omega arith);
}

pub all_in_range : DemoIsInRange
all_in_range nx ny steps px a b c d h low high = record {
  plan = plan_ranged nx ny steps a (omega arith) c (omega arith) h;
  files = files_fit nx ny steps b d;
  initial = initial_fits nx ny steps;
  hooks = hooks_none nx ny steps;
  layout = layout_ranged px low high;
}
