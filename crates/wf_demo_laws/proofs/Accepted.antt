-- The demo's plan is sound, so is each layout of it by columns, and the halo check accepts it.
use Rattle.std.proofs.Common.{◌≡◌, ◌⊎◌, inl, inr, ⊎_elim, ℕ, ◌+◌, ◌-◌, ◌≤◌, Bool, true, false, List, [], ◌∷◌, refl, sym, ap, ◌∙◌, subst, arith}
use Rattle.std.proofs.lemmas.Int.{ints}
use Rattle.std.proofs.lemmas.List.{append-nil}
use Rattle.std.proofs.lemmas.List.Elements.{All-cons, All-map}
use Rattle.std.specs.Prelude.{ℤ, pos, negsuc, ◌+ℤ◌, ◌≤ℤ◌, ◌<ℤ◌, ◌-ℤ◌, unsigned_abs, ◌&&◌, ◌||◌, ◌++◌, map, reverse, drop, if◌then◌else◌, not}
use Rattle.std.specs.List.{All}
use Rattle.wf_model.specs.declared.plan.Plan.{Plan}
use Rattle.wf_model.specs.declared.plan.HaloPart.{HaloPart}
use Rattle.wf_model.specs.declared.plan.Item.TheVariants as item
use Rattle.wf_model.specs.declared.expr.Expr.{fold-roll-Expr}
use Rattle.wf_model.specs.Plans.{domain_of, field_of, nz, level_at}
use Rattle.wf_model.specs.Changes.{in_region}
use Rattle.wf_model.specs.Reads.{Read, reads_of}
use Rattle.wf_model.specs.Patches.{Split, Span, Box, fine, in_box, in_span, own_box, is_own, is_place, is_in_domain, region_holds, computes, grown, grown_box}
use Rattle.wf_model.specs.Shapes.{in_halo_box, halo_holds}
use Rattle.wf_model.specs.Cycle.{Turn, cycle_of}
use Rattle.wf_model.specs.Covered.{walk, walk_on, ends, goes_on, looked_back, Asked, all_asked, IsReadCovered, IsCovered}
use Rattle.wf_model.specs.Sound.{IsDomain, IsLevel, IsSoundRead, IsSoundPhase, IsSoundHaloPart, IsSoundItem, IsSoundPair, IsSoundPlan, IsSoundLayout}
use Rattle.wf_model.specs.DemoCase.{demo_plan, demo_expr, columns_layout}
use Rattle.wf_laws.proofs.Bools.{split_bool, differ, and_left, and_right, and_both, or_left, or_right}
use Rattle.wf_laws.proofs.Spans.{span-in, span-low, span-high}
use Rattle.wf_demo_laws.proofs.Phase.{phase_of, IsInner, region_inner}

-- a read of the point or of a neighbour
pub record IsNear (rd : Read) : Type 0 where
  pub field : rd.field ≡ 0
  pub level : rd.dk ≡ pos 0
  pub j_low : negsuc 0 ≤ℤ rd.dj
  pub j_high : rd.dj ≤ℤ pos 1
  pub i_low : negsuc 0 ≤ℤ rd.di
  pub i_high : rd.di ≤ℤ pos 1
  pub cross : (rd.dj ≡ pos 0) ⊎ (rd.di ≡ pos 0)

-- a read of the one level
abbrev read : ℤ → ℤ → Read
read di dj = record { field = 0; di = di; dk = pos 0; dj = dj }

-- the five reads of the demo's expression
demo_reads : reads_of demo_expr ≡ read (pos 0) (pos 0) ∷ read (negsuc 0) (pos 0) ∷ read (pos 1) (pos 0) ∷ read (pos 0) (negsuc 0) ∷ read (pos 0) (pos 1) ∷ []
unfolding reads_of
demo_reads = simp fold-roll-Expr refl

-- of the same row, and of the same column
in_row : (di : ℤ) → negsuc 0 ≤ℤ di → di ≤ℤ pos 1 → IsNear (read di (pos 0))
in_row di l h = record { field = refl; level = refl; j_low = omega (arith, ints); j_high = omega (arith, ints); i_low = l; i_high = h; cross = inl refl }

in_column : (dj : ℤ) → negsuc 0 ≤ℤ dj → dj ≤ℤ pos 1 → IsNear (read (pos 0) dj)
in_column dj l h = record { field = refl; level = refl; j_low = l; j_high = h; i_low = omega (arith, ints); i_high = omega (arith, ints); cross = inr refl }

-- and a list of none keeps all
pub none_of : {X : Type 0} (P : X → Type 0) → All P []
none_of P k d h = absurd (omega arith)

-- all five are near
pub reads_near : All IsNear (reads_of demo_expr)
reads_near =
    subst (All IsNear) (sym demo_reads)
    (All-cons IsNear (read (pos 0) (pos 0)) (read (negsuc 0) (pos 0) ∷ read (pos 1) (pos 0) ∷ read (pos 0) (negsuc 0) ∷ read (pos 0) (pos 1) ∷ []) (in_row (pos 0) (omega (arith, ints)) (omega (arith, ints)))
    (All-cons IsNear (read (negsuc 0) (pos 0)) (read (pos 1) (pos 0) ∷ read (pos 0) (negsuc 0) ∷ read (pos 0) (pos 1) ∷ []) (in_row (negsuc 0) (omega (arith, ints)) (omega (arith, ints)))
    (All-cons IsNear (read (pos 1) (pos 0)) (read (pos 0) (negsuc 0) ∷ read (pos 0) (pos 1) ∷ []) (in_row (pos 1) (omega (arith, ints)) (omega (arith, ints)))
    (All-cons IsNear (read (pos 0) (negsuc 0)) (read (pos 0) (pos 1) ∷ []) (in_column (negsuc 0) (omega (arith, ints)) (omega (arith, ints)))
    (All-cons IsNear (read (pos 0) (pos 1)) ([]) (in_column (pos 1) (omega (arith, ints)) (omega (arith, ints)))
    (none_of IsNear))))))

-- what each read keeps, all keep
pub all_of : {X : Type 0} (P Q : X → Type 0) (xs : List X) → ((x : X) → P x → Q x) → All P xs → All Q xs
all_of P Q xs f all = λ k d h. f _ (all k d h)

-- the points of a direction
abbrev pub points : ℕ → Span
points n = record { low = pos 1; high = pos (n + 1 - 1 + 0 + 1) }

-- the demo's halo
abbrev pub halo_part : HaloPart
halo_part = record { field = 0; cross = true; radius = 1 }

module _ (nx ny steps : ℕ) where
  abbrev plan : Plan
  plan = demo_plan nx ny steps

  -- there is one domain, and one level
  pub one_domain : (d : ℕ) → IsDomain plan d → d ≡ 1
  one_domain d is = omega (arith, is.0, is.1)

  pub one_level : (f : ℕ) → IsLevel plan f → f ≡ 0
  one_level f is = omega arith

  -- a neighbour of an inner point is a point
  near_place : (rd : Read) (j i : ℕ) → IsNear rd → IsInner nx ny j i → is_place plan 1 0 (pos j +ℤ rd.dj) (pos i +ℤ rd.di) ≡ true
  unfolding is_place domain_of field_of
  near_place rd j i near at =
      and_both _ _ (span-in (record { low = pos 1; high = pos (ny + 1 - 1 + 0 + 1) }) (pos j +ℤ rd.dj) (omega (arith, ints)) (omega (arith, ints)))
      (span-in (record { low = pos 1; high = pos (nx + 1 - 1 + 0 + 1) }) (pos i +ℤ rd.di) (omega (arith, ints)) (omega (arith, ints)))

  -- so are its reads, its phase, its halo and its level sound
  read_sound : (rd : Read) → IsNear rd → IsSoundRead plan 1 phase_of rd
  unfolding field_of
  read_sound rd near = record {
    level = omega (arith, near.field);
    inside = λ k j i h. ap (λ (f : ℕ). is_place plan 1 f (pos j +ℤ rd.dj) (pos i +ℤ rd.di)) near.field ∙ near_place rd j i near (region_inner nx ny steps (λ id xs. pos 0) k j i h);
    levels = λ k j i h. subst (λ (f : ℕ). (1 ≤ level_at plan f k rd.dk) × (level_at plan f k rd.dk ≤ nz plan f)) (sym near.field) (omega arith, omega arith);
    above = λ k j i h z. let no : (field_of plan 0).z ≡ true = subst (λ (f : ℕ). (field_of plan f).z ≡ true) near.field z in absurd (differ (sym no));
  }

  phase_sound : IsSoundPhase plan phase_of
  unfolding field_of
  phase_sound = record {
    writes = omega arith;
    top = omega arith;
    reads = λ d is. subst (λ (e : ℕ). All (IsSoundRead plan e phase_of) (reads_of demo_expr)) (sym (one_domain d is)) (all_of IsNear (IsSoundRead plan 1 phase_of) (reads_of demo_expr) read_sound reads_near);
  }

  halo_sound : IsSoundHaloPart plan halo_part
  halo_sound = record { level = omega arith; some = omega arith; cross = λ h. omega arith; one = λ h. refl }

  pair_sound : IsSoundPair plan 0
  unfolding field_of
  pair_sound = record { is = omega arith; back = refl; levels = refl; stag_x = refl; stag_y = refl; restart = refl }

  -- the plan is sound
  pub plan_sound : 1 ≤ nx → 1 ≤ ny → IsSoundPlan plan
  unfolding domain_of field_of
  plan_sound x y = record {
    some = omega arith;
    wide = λ d is. subst (λ (e : ℕ). 2 ≤ (domain_of plan e).ide) (sym (one_domain d is)) (omega arith);
    high = λ d is. subst (λ (e : ℕ). 2 ≤ (domain_of plan e).jde) (sym (one_domain d is)) (omega arith);
    steps = λ d is. subst (λ (e : ℕ). 1 ≤ (domain_of plan e).seconds) (sym (one_domain d is)) (omega arith);
    nests = λ c more is. absurd (omega (arith, one_domain c is));
    levels = λ f is. subst (λ (g : ℕ). 1 ≤ nz plan g) (sym (one_level f is)) (omega arith);
    pairs = λ f is. subst (IsSoundPair plan) (sym (one_level f is)) pair_sound;
    items = All-cons (IsSoundItem plan) (item.Halo (halo_part ∷ [])) (item.Phase phase_of ∷ []) (All-cons (IsSoundHaloPart plan) halo_part [] halo_sound (none_of (IsSoundHaloPart plan)))
        (All-cons (IsSoundItem plan) (item.Phase phase_of) [] phase_sound (none_of (IsSoundItem plan)));
  }

  -- and so is a layout by columns
  pub layout_sound : (px : ℕ) → 1 ≤ px → px ≤ nx → 1 ≤ ny → IsSoundLayout plan (columns_layout px)
  unfolding domain_of
  layout_sound px some room y = record {
    some_x = some;
    some_y = omega arith;
    room_x = λ d is. subst (λ (e : ℕ). px ≤ (domain_of plan e).ide - 1) (sym (one_domain d is)) (omega arith);
    room_y = λ d is. subst (λ (e : ℕ). 1 ≤ (domain_of plan e).jde - 1) (sym (one_domain d is)) (omega arith);
    tiles = omega arith;
    groups = omega arith;
    servers = omega arith;
    depth = omega arith;
  }

  -- a cell that a patch computes is an inner point of its own
  pub record IsComputed (split : Split) (p : ℕ) (j i : ℤ) : Type 0 where
    pub y_low : (own_box plan split 1 p 0).y.low ≤ℤ j
    pub y_high : j <ℤ (own_box plan split 1 p 0).y.high
    pub x_low : (own_box plan split 1 p 0).x.low ≤ℤ i
    pub x_high : i <ℤ (own_box plan split 1 p 0).x.high
    pub j_low : pos 2 ≤ℤ j
    pub j_high : (j +ℤ pos 1) ≤ℤ pos ny
    pub i_low : pos 2 ≤ℤ i
    pub i_high : (i +ℤ pos 1) ≤ℤ pos nx

  pub computed_is : (split : Split) (p k : ℕ) (j i : ℤ) → computes plan split 1 p phase_of k j i ≡ true → IsComputed split p j i
  unfolding computes region_holds is_place domain_of field_of
  computed_is split p k j i h =
      let own : Box = own_box plan split 1 p 0 in
      let box : in_box (grown_box 0 0 own) j i ≡ true = and_left (in_box (grown_box 0 0 own) j i) (is_place plan 1 0 j i && in_region plan 1 phase_of k (unsigned_abs j) (unsigned_abs i)) h in
      let held = and_right (in_box (grown_box 0 0 own) j i) (is_place plan 1 0 j i && in_region plan 1 phase_of k (unsigned_abs j) (unsigned_abs i)) h in
      let place : (in_span (points ny) j && in_span (points nx) i) ≡ true = and_left (is_place plan 1 0 j i) (in_region plan 1 phase_of k (unsigned_abs j) (unsigned_abs i)) held in
      let region = and_right (is_place plan 1 0 j i) (in_region plan 1 phase_of k (unsigned_abs j) (unsigned_abs i)) held in
      let at : IsInner nx ny (unsigned_abs j) (unsigned_abs i) = region_inner nx ny steps (λ id xs. pos 0) k (unsigned_abs j) (unsigned_abs i) region in
      let jl : pos 1 ≤ℤ j = span-low (points ny) j (and_left (in_span (points ny) j) (in_span (points nx) i) place) in
      let il : pos 1 ≤ℤ i = span-low (points nx) i (and_right (in_span (points ny) j) (in_span (points nx) i) place) in
      let yl : (own.y.low -ℤ pos 0) ≤ℤ j = span-low (grown 0 own.y) j (and_left (in_span (grown 0 own.y) j) (in_span (grown 0 own.x) i) box) in
      let yh : j <ℤ (own.y.high +ℤ pos 0) = span-high (grown 0 own.y) j (and_left (in_span (grown 0 own.y) j) (in_span (grown 0 own.x) i) box) in
      let xl : (own.x.low -ℤ pos 0) ≤ℤ i = span-low (grown 0 own.x) i (and_right (in_span (grown 0 own.y) j) (in_span (grown 0 own.x) i) box) in
      let xh : i <ℤ (own.x.high +ℤ pos 0) = span-high (grown 0 own.x) i (and_right (in_span (grown 0 own.y) j) (in_span (grown 0 own.x) i) box) in
      record {
        y_low = omega (arith, ints);
        y_high = omega (arith, ints);
        x_low = omega (arith, ints);
        x_high = omega (arith, ints);
        j_low = omega (arith, ints);
        j_high = omega (arith, ints);
        i_low = omega (arith, ints);
        i_high = omega (arith, ints);
      }

  -- a cell beside a patch's own, in one direction, is one that the halo fetches
  pub halo_there : (split : Split) (p : ℕ) (j i : ℤ) → in_span (points ny) j ≡ true → in_span (points nx) i ≡ true →
      (in_box (grown_box 1 0 (own_box plan split 1 p 0)) j i || in_box (grown_box 0 1 (own_box plan split 1 p 0)) j i) ≡ true → is_own plan split 1 p 0 j i ≡ false →
      halo_holds plan split 1 p halo_part j i ≡ true
  unfolding halo_holds is_in_domain in_halo_box domain_of field_of
  halo_there split p j i y x near other = and_both _ _ (and_both _ _ (and_both _ _ y x) near) (ap not other)

  -- a neighbour of a computed cell is own or beside the patch's own
  near_cell : (split : Split) (p : ℕ) (j i : ℤ) (rd : Read) → IsNear rd → IsComputed split p j i →
      (in_box (grown_box 1 0 (own_box plan split 1 p 0)) (j +ℤ rd.dj) (i +ℤ rd.di) || in_box (grown_box 0 1 (own_box plan split 1 p 0)) (j +ℤ rd.dj) (i +ℤ rd.di)) ≡ true
  near_cell split p j i rd near at =
      let own : Box = own_box plan split 1 p 0 in
      ⊎_elim
      (λ none. or_left (in_box (grown_box 1 0 own) (j +ℤ rd.dj) (i +ℤ rd.di)) (in_box (grown_box 0 1 own) (j +ℤ rd.dj) (i +ℤ rd.di))
      (and_both _ _ (span-in (grown 0 own.y) (j +ℤ rd.dj) (omega (arith, ints, at.y_low, at.y_high)) (omega (arith, ints))) (span-in (grown 1 own.x) (i +ℤ rd.di) (omega (arith, ints)) (omega (arith, ints)))))
      (λ none. or_right (in_box (grown_box 1 0 own) (j +ℤ rd.dj) (i +ℤ rd.di)) (in_box (grown_box 0 1 own) (j +ℤ rd.dj) (i +ℤ rd.di))
      (and_both _ _ (span-in (grown 1 own.y) (j +ℤ rd.dj) (omega (arith, ints)) (omega (arith, ints))) (span-in (grown 0 own.x) (i +ℤ rd.di) (omega (arith, ints)) (omega (arith, ints)))))
      near.cross

  -- there the walk back ends at the halo
  walk_ends : (split : Split) (p k : ℕ) (j i : ℤ) → halo_holds plan split 1 p halo_part j i ≡ true → walk plan split 1 p k j i (looked_back (cycle_of plan 1) 1) 0 ≡ true
  unfolding cycle_of walk
  walk_ends split p k j i h =
      let before : List Turn = reverse (cycle_of plan 1) ++ reverse (drop 1 (cycle_of plan 1)) in
      λ n. walk_on (if h n || false then ends true else goes_on 0) (walk plan split 1 p k j i before)

  -- each read is covered
  read_covered : (rd : Read) → IsNear rd → IsReadCovered plan (record { domain = 1; item = 1; phase = phase_of; read = rd })
  unfolding IsReadCovered field_of
  read_covered rd near patch k j i within =
      let y : ℤ = j +ℤ rd.dj in
      let x : ℤ = i +ℤ rd.di in
      let turns : List Turn = looked_back (cycle_of plan 1) 1 in
      let computed : Bool = computes plan (fine plan 1) 1 patch phase_of k j i in
      let own : Bool = is_own plan (fine plan 1) 1 patch 0 y x in
      let met : Bool = walk plan (fine plan 1) 1 patch 1 y x turns 0 in
      subst (λ (f : ℕ). (not computed || (is_own plan (fine plan 1) 1 patch f y x || walk plan (fine plan 1) 1 patch (level_at plan f k rd.dk) y x turns f)) ≡ true) (sym near.field)
      (⊎_elim
      (λ c. let at = computed_is (fine plan 1) patch k j i c in
      or_right (not computed) (own || met)
      (⊎_elim (λ o. or_left own met o)
      (λ o. or_right own met
      (walk_ends (fine plan 1) patch 1 y x
      (halo_there (fine plan 1) patch y x (span-in (points ny) y (omega (arith, ints, at.j_low, at.j_high)) (omega (arith, ints))) (span-in (points nx) x (omega (arith, ints)) (omega (arith, ints)))
      (near_cell (fine plan 1) patch j i rd near at) o)))
      (split_bool own)))
      (λ c. or_left (not computed) (own || met) (ap not c))
      (split_bool computed))

  -- the halo check accepts the plan
  pub plan_covered : IsCovered plan
  unfolding IsCovered all_asked
  plan_covered =
      let asked : List Asked = map (λ (rd : Read). record { domain = 1; item = 1; phase = phase_of; read = rd }) (reads_of demo_expr) in
      subst (All (IsReadCovered plan)) (sym (append-nil (asked ++ []) ∙ append-nil asked))
      (All-map (IsReadCovered plan) (λ (rd : Read). record { domain = 1; item = 1; phase = phase_of; read = rd }) (reads_of demo_expr) (all_of IsNear (λ rd. IsReadCovered plan (record { domain = 1; item = 1; phase = phase_of; read = rd })) (reads_of demo_expr) read_covered reads_near))
