-- What the demo's items do to its grid.
use Rattle.std.proofs.Common.{◌≡◌, ℕ, suc, ◌+◌, ◌*◌, ◌-◌, ◌<◌, ◌≤◌, Bool, true, false, refl, sym, ap, ◌∙◌, arith, Option, Some, None}
use Rattle.std.proofs.lemmas.Int.{ints}
use Rattle.std.proofs.lemmas.Bool.Decides.{nat_tests}
use Rattle.std.specs.Prelude.{pos, negsuc, ℤ, ◌+ℤ◌, ◌&&◌, ◌==◌, nat_lt, nat_le, unsigned_abs, is_none, unwrap_or, if◌then◌else◌, option_map, codes}
use Rattle.wf_model.specs.declared.plan.Phase.{Phase}
use Rattle.wf_model.specs.declared.script.Act.TheVariants.{Table}
use Rattle.wf_model.specs.declared.script.Entry.{Entry}
use Rattle.wf_model.specs.Value.{Answers, value_of}
use Rattle.wf_model.specs.Plans.{domain_of, field_of, item_of}
use Rattle.wf_model.specs.Grids.{Grids}
use Rattle.wf_model.specs.Changes.{Spot, spots, nothing, changed, table_change, phase_change, sight_at, in_region, overflows_at}
use Rattle.wf_model.specs.Script.{entry}
use Rattle.wf_model.specs.Outcome.{point_of, change_of, overflow_of, grids_after}
use Rattle.wf_model.specs.DemoCase.{demo_plan, demo_expr}
use Rattle.wf_model.specs.Demo.{is_inner, weighted, demo_value}
use Rattle.wf_laws.proofs.Bools.{and_left, and_right, and_both}
use Rattle.wf_laws.proofs.Members.{find-None}
use Rattle.wf_demo_laws.specs.DemoLaws.{demo_run, frame_entry}
use Rattle.wf_demo_laws.proofs.Values.{demo_number, weighted-number, demo_value-small, in_i32-small, weighted-small}

-- domain 1's grid has the demo's values after n steps
abbrev pub IsDemoGrid : ℕ → ℕ → ℕ → Grids → Type 0
IsDemoGrid nx ny n g = (j i : ℕ) → 1 ≤ j → j ≤ ny → 1 ≤ i → i ≤ nx → g 1 0 1 j i ≡ pos (demo_value nx ny n j i)

-- an inner point: its neighbours are points too
pub record IsInner (nx ny j i : ℕ) : Type 0 where
  pub j_low : 2 ≤ j
  pub j_high : j + 1 ≤ ny
  pub i_low : 2 ≤ i
  pub i_high : i + 1 ≤ nx

-- what the test says
pub inner : (nx ny j i : ℕ) → is_inner nx ny j i ≡ true → IsInner nx ny j i
inner nx ny j i h = record { j_low = grind (arith, nat_tests); j_high = grind (arith, nat_tests); i_low = grind (arith, nat_tests); i_high = grind (arith, nat_tests) }

-- the phase's margin leaves the inner points
inside_is : (n x : ℕ) → (nat_le (1 + 1) x && nat_le x (n + 1 - 1 + 0 - 1)) ≡ (nat_lt 1 x && nat_lt x n)
inside_is n x = grind (arith, nat_tests)

-- the two directions in the other order
swapped : (a b c d : Bool) → ((c && d) && (a && b)) ≡ (a && b && c && d)
swapped true true true true = refl
swapped true true true false = refl
swapped true true false d = refl
swapped true false true true = refl
swapped true false true false = refl
swapped true false false d = refl
swapped false b true true = refl
swapped false b true false = refl
swapped false b false d = refl

-- the demo's phase
abbrev pub phase_of : Phase
phase_of = record { name = codes "p"; writes = 0; mx = 1; my = 1; from = 0; to = 0; extend = 0; expr = demo_expr }

-- values are small
small_below : {n : ℕ} → n < 100 → n < 1000
small_below h = omega arith

-- a point that is set has a number
has_value : (sets : Bool) (o : Option ℤ) → (sets ≡ true → is_none o ≡ false) → (sets && is_none o) ≡ false
has_value true o h = h refl
has_value false o h = refl

-- the second and the third of three that hold
without_first : (a b c : Bool) → ((a && b) && c) ≡ true → (b && c) ≡ true
without_first a b c h = and_both b c (and_right a b (and_left (a && b) c h)) (and_right (a && b) c h)

-- a choice between numbers
chosen_same : (b : Bool) (x y : ℤ) (v w : ℕ) → (b ≡ true → x ≡ pos v) → y ≡ pos w → (if b then x else y) ≡ pos (if b then v else w)
chosen_same true x y v w h k = h refl
chosen_same false x y v w h k = k

module _ (nx ny steps : ℕ) (m : Answers) where
  -- the region is the inner points
  region_is : (j i : ℕ) → in_region (demo_plan nx ny steps) 1 phase_of 1 j i ≡ is_inner nx ny j i
  unfolding in_region domain_of field_of
  region_is j i = (λ n. inside_is ny j n && inside_is nx i n) ∙ swapped (nat_lt 1 i) (nat_lt i nx) (nat_lt 1 j) (nat_lt j ny)

  -- a phase's value at an inner point
  value_is : (g : Grids) (n step k j i : ℕ) → IsDemoGrid nx ny n g → IsInner nx ny j i →
      value_of m (sight_at (demo_plan nx ny steps) g 1 step k j i) demo_expr ≡
      Some (pos (weighted (demo_value nx ny n j i) (demo_value nx ny n j (i - 1)) (demo_value nx ny n j (i + 1)) (demo_value nx ny n (j - 1) i) (demo_value nx ny n (j + 1) i)))
  unfolding domain_of field_of
  value_is g n step k j i at h =
      let row : j + 0 ≡ j = omega arith in
      let column : i + 0 ≡ i = omega arith in
      let west : unsigned_abs (pos i +ℤ negsuc 0) ≡ i - 1 = omega (arith, ints) in
      let south : unsigned_abs (pos j +ℤ negsuc 0) ≡ j - 1 = omega (arith, ints) in
      rw (
        demo_number m (sight_at (demo_plan nx ny steps) g 1 step k j i),
        row,
        column,
        west,
        south,
        at j i (omega arith) (omega arith) (omega arith) (omega arith),
        at j (i - 1) (omega arith) (omega arith) (omega arith) (omega arith),
        at j (i + 1) (omega arith) (omega arith) (omega arith) (omega arith),
        at (j - 1) i (omega arith) (omega arith) (omega arith) (omega arith),
        at (j + 1) i (omega arith) (omega arith) (omega arith) (omega arith),
        weighted-number _ _ _ _ _ (demo_value-small nx ny n j i) (demo_value-small nx ny n j (i - 1)) (demo_value-small nx ny n j (i + 1)) (demo_value-small nx ny n (j - 1) i) (demo_value-small nx ny n (j + 1) i),
      )
      (in_i32-small _ (small_below (weighted-small _ _ _ _ _ (demo_value-small nx ny n j i) (demo_value-small nx ny n j (i - 1)) (demo_value-small nx ny n j (i + 1)) (demo_value-small nx ny n (j - 1) i) (demo_value-small nx ny n (j + 1) i))))

  -- the phase's item in the step after n steps
  abbrev pub phase_at : ℕ → Entry
  phase_at n = entry 1 (n + 1) (60 * n) (Table 1)

  -- the phase's region has the inner points
  pub region_inner : (k j i : ℕ) → in_region (demo_plan nx ny steps) 1 phase_of k j i ≡ true → IsInner nx ny j i
  unfolding in_region domain_of field_of
  region_inner k j i h = inner nx ny j i (sym (region_is j i) ∙ without_first (nat_le 1 k && nat_le k 1) (nat_le (1 + 1) j && nat_le j (ny + 1 - 1 + 0 - 1)) (nat_le (1 + 1) i && nat_le i (nx + 1 - 1 + 0 - 1)) h)

  -- a point that the phase sets has a value
  point_goes : (g : Grids) (n : ℕ) (x : Spot) → IsDemoGrid nx ny n g → overflows_at (phase_change (demo_plan nx ny steps) m g 1 (n + 1) phase_of) x ≡ false
  point_goes g n x at =
      has_value ((x.field == 0) && in_region (demo_plan nx ny steps) 1 phase_of x.k x.j x.i) (value_of m (sight_at (demo_plan nx ny steps) g 1 (n + 1) x.k x.j x.i) demo_expr)
      (λ h. ap is_none (value_is g n (n + 1) x.k x.j x.i at (region_inner x.k x.j x.i (and_right (x.field == 0) (in_region (demo_plan nx ny steps) 1 phase_of x.k x.j x.i) h))))

  -- no item overflows
  pub phase_goes : (g : Grids) (n : ℕ) → IsDemoGrid nx ny n g → overflow_of (demo_run nx ny steps m) (phase_at n) g ≡ None
  unfolding overflow_of change_of table_change item_of
  phase_goes g n at = ap (option_map (point_of (change_of (demo_run nx ny steps m) g (phase_at n)) (phase_at n))) (find-None (overflows_at (phase_change (demo_plan nx ny steps) m g 1 (n + 1) phase_of)) (spots (demo_plan nx ny steps) 1) (λ x i. point_goes g n x at))

  pub halo_goes : (g : Grids) (n : ℕ) → overflow_of (demo_run nx ny steps m) (entry 1 (n + 1) (60 * n) (Table 0)) g ≡ None
  unfolding overflow_of change_of nothing table_change item_of
  halo_goes g n = ap (option_map (point_of nothing (entry 1 (n + 1) (60 * n) (Table 0)))) (find-None (overflows_at nothing) (spots (demo_plan nx ny steps) 0) (λ x i. refl))

  pub frame_goes : (g : Grids) (n : ℕ) → overflow_of (demo_run nx ny steps m) (frame_entry n) g ≡ None
  unfolding overflow_of change_of nothing
  frame_goes g n = ap (option_map (point_of nothing (frame_entry n))) (find-None (overflows_at nothing) (spots (demo_plan nx ny steps) 0) (λ x i. refl))

  -- halo and frame leave the grid
  pub halo_keeps : (g : Grids) (n k j i : ℕ) → grids_after (demo_run nx ny steps m) g (entry 1 (n + 1) (60 * n) (Table 0)) 1 0 k j i ≡ g 1 0 k j i
  unfolding grids_after changed change_of nothing table_change item_of
  halo_keeps g n k j i = refl

  pub frame_keeps : (g : Grids) (n k j i : ℕ) → grids_after (demo_run nx ny steps m) g (frame_entry n) 1 0 k j i ≡ g 1 0 k j i
  unfolding grids_after changed change_of nothing
  frame_keeps g n k j i = refl

  -- what the phase sets
  phase_sets : (g : Grids) (n j i : ℕ) → grids_after (demo_run nx ny steps m) g (phase_at n) 1 0 1 j i ≡
      (if is_inner nx ny j i then unwrap_or (value_of m (sight_at (demo_plan nx ny steps) g 1 (n + 1) 1 j i) demo_expr) (pos 0) else g 1 0 1 j i)
  unfolding grids_after changed change_of table_change item_of
  phase_sets g n j i = ap (λ (b : Bool). if b then unwrap_or (value_of m (sight_at (demo_plan nx ny steps) g 1 (n + 1) 1 j i) demo_expr) (pos 0) else g 1 0 1 j i) (region_is j i)

  -- which is the grid after a step more
  pub phase_steps : (g : Grids) (n : ℕ) → IsDemoGrid nx ny n g → IsDemoGrid nx ny (suc n) (grids_after (demo_run nx ny steps m) g (phase_at n))
  unfolding demo_value
  phase_steps g n at j i jl jh il ih =
      phase_sets g n j i ∙
      chosen_same (is_inner nx ny j i) (unwrap_or (value_of m (sight_at (demo_plan nx ny steps) g 1 (n + 1) 1 j i) demo_expr) (pos 0)) (g 1 0 1 j i) _ _
      (λ h. ap (λ (o : Option ℤ). unwrap_or o (pos 0)) (value_is g n (n + 1) 1 j i at (inner nx ny j i h))) (at j i jl jh il ih)
