-- The worked cases of accepted plans: their parts are sound, and the test over all reads finds none.
use Rattle.std.proofs.Common.{◌≡◌, ◌⊎◌, ⊎_elim, ℕ, ◌+◌, ◌-◌, ◌≤◌, ◌<◌, true, false, [], ◌∷◌, refl, sym, subst, arith}
use Rattle.std.proofs.lemmas.Int.{ints}
use Rattle.std.proofs.lemmas.List.Elements.{All-nil, All-cons}
use Rattle.std.specs.Prelude.{ℤ, pos, negsuc, ◌+ℤ◌, unsigned_abs, ◌&&◌, nat_le, None}
use Rattle.std.specs.List.{All}
use Rattle.wf_model.specs.declared.plan.Plan.{Plan}
use Rattle.wf_model.specs.declared.plan.HaloPart.{HaloPart}
use Rattle.wf_model.specs.declared.plan.PeriodPart.{PeriodPart}
use Rattle.wf_model.specs.declared.plan.Item.TheVariants as item
use Rattle.wf_model.specs.declared.expr.Expr.{fold-roll-Expr}
use Rattle.wf_model.specs.Plans.{domain_of, field_of, children, nz, is_inside}
use Rattle.wf_model.specs.Changes.{in_region, is_phase_level}
use Rattle.wf_model.specs.Reads.{Read, reads_of}
use Rattle.wf_model.specs.Patches.{in_span, own_box, is_own, is_place, is_in_domain, region_holds, computes}
use Rattle.wf_model.specs.Shapes.{halo_holds, period_holds, in_halo_box}
use Rattle.wf_model.specs.Cycle.{cycle_of}
use Rattle.wf_model.specs.Covered.{walk, all_asked}
use Rattle.wf_model.specs.Uncovered.{is_read_covered, first_uncovered}
use Rattle.wf_model.specs.Sound.{IsDomain, IsLevel, IsSoundRead, IsSoundPhase, IsSoundHaloPart, IsSoundItem, IsSoundPair, IsSoundNest, IsSoundPlan, IsSoundLayout}
use Rattle.wf_model.specs.DemoCase.{columns_layout}
use Rattle.wf_laws.proofs.Bools.{differ, and_left, and_right, and_both, most_of}
use Rattle.wf_laws.proofs.Spans.{span-in}
use Rattle.wf_check_laws.proofs.First.{first_tells}
use Rattle.wf_cases.specs.RunCases.{neighbours}
use Rattle.wf_cases.specs.NestCases.{two_by_two}
use Rattle.wf_cases.specs.AcceptedCases.{both_sides, nested, period, round, AcceptedPlans}

-- the reads of the phase
beside : ℤ → Read
beside di = record { field = 0; di = di; dk = pos 0; dj = pos 0 }

two_reads : reads_of neighbours ≡ beside (negsuc 0) ∷ beside (pos 1) ∷ []
unfolding reads_of beside
two_reads = simp fold-roll-Expr refl

-- what both keep, all keep
both_reads : (P : Read → Type 0) → P (beside (negsuc 0)) → P (beside (pos 1)) → All P (reads_of neighbours)
both_reads P west east =
    subst (All P) (sym two_reads) (All-cons P (beside (negsuc 0)) (beside (pos 1) ∷ []) west (All-cons P (beside (pos 1)) [] east (All-nil P)))

-- a read no further than the margin stays within the extent
within_reach : (n m c : ℕ) (z : ℤ) → is_inside false m n c ≡ true → unsigned_abs z ≤ m → in_span (record { low = pos 1; high = pos (n + 1) }) (pos c +ℤ z) ≡ true
within_reach n m c z h near =
    let low : m + 1 ≤ c = most_of (m + 1) c (and_left (nat_le (m + 1) c) (nat_le c (n - m)) h) in
    let high : c ≤ n - m = most_of c (n - m) (and_right (nat_le (m + 1) c) (nat_le c (n - m)) h) in
    span-in (record { low = pos 1; high = pos (n + 1) }) (pos c +ℤ z) (omega (arith, ints)) (omega (arith, ints))

-- ---- the plan with a nest

abbrev plan : Plan
plan = nested.plan

-- what both domains keep
of_both : (P : ℕ → Type 0) → P 1 → P 2 → (d : ℕ) → IsDomain plan d → P d
of_both P one two d is = ⊎_elim (λ e. subst P (sym e) one) (λ e. subst P (sym e) two) (either d is.0 is.1)
  where
    either : (d : ℕ) → 1 ≤ d → d ≤ 2 → (d ≡ 1) ⊎ (d ≡ 2)
    either d l h = grind arith

one_level : (f : ℕ) → IsLevel plan f → f ≡ 0
one_level f is = omega arith

-- a read in either domain
outer_read : (di : ℤ) → unsigned_abs di ≤ 1 → IsSoundRead plan 1 (both_sides 1) (beside di)
unfolding beside field_of domain_of in_region is_place
outer_read di near = record {
  level = omega arith;
  inside = λ k j i h.
      let rows = and_left (is_phase_level plan (both_sides 1) k && is_inside false 0 4 j) (is_inside false 1 4 i) h in
      and_both _ _ (within_reach 4 0 j (pos 0) (and_right (is_phase_level plan (both_sides 1) k) (is_inside false 0 4 j) rows) (omega arith))
      (within_reach 4 1 i di (and_right (is_phase_level plan (both_sides 1) k && is_inside false 0 4 j) (is_inside false 1 4 i) h) near);
  levels = λ k j i h. (omega arith, omega arith);
  above = λ k j i h z. absurd (differ (sym z));
}

inner_read : (di : ℤ) → unsigned_abs di ≤ 1 → IsSoundRead plan 2 (both_sides 1) (beside di)
unfolding beside field_of domain_of in_region is_place
inner_read di near = record {
  level = omega arith;
  inside = λ k j i h.
      let rows = and_left (is_phase_level plan (both_sides 1) k && is_inside false 0 3 j) (is_inside false 1 3 i) h in
      and_both _ _ (within_reach 3 0 j (pos 0) (and_right (is_phase_level plan (both_sides 1) k) (is_inside false 0 3 j) rows) (omega arith))
      (within_reach 3 1 i di (and_right (is_phase_level plan (both_sides 1) k && is_inside false 0 3 j) (is_inside false 1 3 i) h) near);
  levels = λ k j i h. (omega arith, omega arith);
  above = λ k j i h z. absurd (differ (sym z));
}

phase_sound : IsSoundPhase plan (both_sides 1)
unfolding field_of
phase_sound = record {
  writes = omega arith;
  top = omega arith;
  reads = of_both (λ d. All (IsSoundRead plan d (both_sides 1)) (reads_of neighbours))
      (both_reads (IsSoundRead plan 1 (both_sides 1)) (outer_read (negsuc 0) (omega arith)) (outer_read (pos 1) (omega arith)))
      (both_reads (IsSoundRead plan 2 (both_sides 1)) (inner_read (negsuc 0) (omega arith)) (inner_read (pos 1) (omega arith)));
}

-- a halo of two rows on the one level
abbrev part : HaloPart
part = record { field = 0; cross = false; radius = 2 }

nest_sound : IsSoundNest plan 2
unfolding domain_of
nest_sound = record {
  parent = (omega arith, omega arith);
  before = omega arith;
  odd = refl;
  cells_x = refl;
  cells_y = refl;
  seconds = refl;
  straight_x = refl;
  straight_y = refl;
  inside_x = (omega arith, omega arith);
  inside_y = (omega arith, omega arith);
  high = refl;
}

nested_sound : IsSoundPlan plan
unfolding domain_of field_of
nested_sound = record {
  some = omega arith;
  wide = of_both (λ d. 2 ≤ (domain_of plan d).ide) (omega arith) (omega arith);
  high = of_both (λ d. 2 ≤ (domain_of plan d).jde) (omega arith) (omega arith);
  steps = of_both (λ d. 1 ≤ (domain_of plan d).seconds) (omega arith) (omega arith);
  nests = λ c more is. let second : c ≡ 2 = omega (arith, is.1) in subst (IsSoundNest plan) (sym second) nest_sound;
  levels = λ f is. subst (λ (g : ℕ). 1 ≤ nz plan g) (sym (one_level f is)) (omega arith);
  pairs = λ f is. subst (IsSoundPair plan) (sym (one_level f is)) (record { is = omega arith; back = refl; levels = refl; stag_x = refl; stag_y = refl; restart = refl });
  items = All-cons (IsSoundItem plan) (item.Halo (part ∷ [])) (item.Phase (both_sides 1) ∷ [])
      (All-cons (IsSoundHaloPart plan) part [] (record { level = omega arith; some = omega arith; cross = λ h. omega arith; one = λ h. absurd (differ (sym h)) }) (All-nil (IsSoundHaloPart plan)))
      (All-cons (IsSoundItem plan) (item.Phase (both_sides 1)) [] phase_sound (All-nil (IsSoundItem plan)));
}

nested_found : first_uncovered plan ≡ None
unfolding first_uncovered all_asked is_read_covered own_box is_own is_place is_in_domain region_holds computes halo_holds in_halo_box in_region domain_of field_of children cycle_of walk beside
nested_found = simp two_reads refl

nested_laid : IsSoundLayout plan two_by_two
unfolding domain_of
nested_laid = record {
  some_x = omega arith;
  some_y = omega arith;
  room_x = of_both (λ d. 2 ≤ (domain_of plan d).ide - 1) (omega arith) (omega arith);
  room_y = of_both (λ d. 2 ≤ (domain_of plan d).jde - 1) (omega arith) (omega arith);
  tiles = omega arith;
  groups = omega arith;
  servers = omega arith;
  depth = omega arith;
}

-- ---- the row that wraps

abbrev row : Plan
row = round.plan

one_domain : (d : ℕ) → IsDomain row d → d ≡ 1
one_domain d is = omega (arith, is.0, is.1)

-- what both levels keep
of_levels : (P : ℕ → Type 0) → P 0 → P 1 → (f : ℕ) → IsLevel row f → P f
of_levels P a b f is = ⊎_elim (λ e. subst P (sym e) a) (λ e. subst P (sym e) b) (either f is)
  where
    either : (f : ℕ) → f < 2 → (f ≡ 0) ⊎ (f ≡ 1)
    either f h = grind arith

-- every read wraps
row_read : (di : ℤ) → IsSoundRead row 1 (both_sides 0) (beside di)
unfolding beside field_of domain_of in_region is_place
row_read di = record {
  level = omega arith;
  inside = λ k j i h.
      let rows = and_left (is_phase_level row (both_sides 0) k && is_inside false 0 1 j) (is_inside true 0 4 i) h in
      and_both _ _ (within_reach 1 0 j (pos 0) (and_right (is_phase_level row (both_sides 0) k) (is_inside false 0 1 j) rows) (omega arith)) refl;
  levels = λ k j i h. (omega arith, omega arith);
  above = λ k j i h z. absurd (differ (sym z));
}

row_phase : IsSoundPhase row (both_sides 0)
unfolding field_of
row_phase = record {
  writes = omega arith;
  top = omega arith;
  reads = λ d is. subst (λ (e : ℕ). All (IsSoundRead row e (both_sides 0)) (reads_of neighbours)) (sym (one_domain d is)) (both_reads (IsSoundRead row 1 (both_sides 0)) (row_read (negsuc 0)) (row_read (pos 1)));
}

row_part : IsSoundHaloPart row part
row_part = record { level = omega arith; some = omega arith; cross = λ h. omega arith; one = λ h. absurd (differ (sym h)) }

round_sound : IsSoundPlan row
unfolding domain_of field_of
round_sound = record {
  some = omega arith;
  wide = λ d is. subst (λ (e : ℕ). 2 ≤ (domain_of row e).ide) (sym (one_domain d is)) (omega arith);
  high = λ d is. subst (λ (e : ℕ). 2 ≤ (domain_of row e).jde) (sym (one_domain d is)) (omega arith);
  steps = λ d is. subst (λ (e : ℕ). 1 ≤ (domain_of row e).seconds) (sym (one_domain d is)) (omega arith);
  nests = λ c more is. absurd (omega (arith, one_domain c is));
  levels = of_levels (λ f. 1 ≤ nz row f) (omega arith) (omega arith);
  pairs = of_levels (IsSoundPair row) (record { is = omega arith; back = refl; levels = refl; stag_x = refl; stag_y = refl; restart = refl })
      (record { is = omega arith; back = refl; levels = refl; stag_x = refl; stag_y = refl; restart = refl });
  items = All-cons (IsSoundItem row) (item.Halo (part ∷ [])) (period ∷ item.Phase (both_sides 0) ∷ [])
      (All-cons (IsSoundHaloPart row) part [] row_part (All-nil (IsSoundHaloPart row)))
      (All-cons (IsSoundItem row) period (item.Phase (both_sides 0) ∷ [])
      (All-cons (λ (w : PeriodPart). IsLevel row w.field) (record { field = 0; width = 1 }) [] (omega arith) (All-nil (λ (w : PeriodPart). IsLevel row w.field)))
      (All-cons (IsSoundItem row) (item.Phase (both_sides 0)) [] row_phase (All-nil (IsSoundItem row))));
}

round_found : first_uncovered row ≡ None
unfolding first_uncovered all_asked is_read_covered own_box is_own is_place is_in_domain region_holds computes halo_holds period_holds in_halo_box in_region domain_of field_of children cycle_of walk beside
round_found = simp two_reads refl

round_laid : IsSoundLayout row (columns_layout 3)
unfolding domain_of
round_laid = record {
  some_x = omega arith;
  some_y = omega arith;
  room_x = λ d is. subst (λ (e : ℕ). 3 ≤ (domain_of row e).ide - 1) (sym (one_domain d is)) (omega arith);
  room_y = λ d is. subst (λ (e : ℕ). 1 ≤ (domain_of row e).jde - 1) (sym (one_domain d is)) (omega arith);
  tiles = omega arith;
  groups = omega arith;
  servers = omega arith;
  depth = omega arith;
}

pub accepted_plans : AcceptedPlans
accepted_plans = record {
  with_a_nest = record { sound = nested_sound; laid = nested_laid; covered = (first_tells plan nested_sound).0 nested_found };
  with_a_period = record { sound = round_sound; laid = round_laid; covered = (first_tells row round_sound).0 round_found };
}
