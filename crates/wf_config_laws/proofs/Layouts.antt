-- A layout whose tests pass fits the plan, and its numbers are in their ranges.
use Rattle.std.proofs.Common.{◌≡◌, ◌⊎◌, ⊎_elim, ℕ, zero, suc, ◌+◌, ◌-◌, ◌*◌, ◌≤◌, nat_lt, false, List, [], ◌∷◌, flat_map, length, Option, Some, None, Ok, pos, negsuc, if◌then◌else◌, sym, ap, subst, ◌∙◌, arith, codes}
use Rattle.std.specs.Prelude.{slice_get, int_lt}
use Rattle.std.proofs.lemmas.Bool.Decides.{nat_tests}
use Rattle.wf_model.specs.declared.config.Config.{Config}
use Rattle.wf_model.specs.declared.plan.Plan.{Plan}
use Rattle.wf_model.specs.declared.layout.Layout.{Layout}
use Rattle.wf_model.specs.declared.plan_fault.LayoutFault.TheVariants.{TooManyPatches, TooManyTiles}
use Rattle.wf_model.specs.Reading.{fault_if, first_fault}
use Rattle.wf_model.specs.Letters.{Text}
use Rattle.wf_model.specs.Plans.{domain_of, domains_of}
use Rattle.wf_model.specs.PlanDomains.{integer, amount}
use Rattle.wf_model.specs.PlanOf.{layout_of, layout_from, layout_faults, patches_faults, patch_count}
use Rattle.wf_model.specs.Ranges.{Within}
use Rattle.wf_model.specs.Sound.{IsDomain}
use Rattle.wf_config_laws.specs.RangedValues.{HasNumber, HasRangedValues}
use Rattle.wf_config_laws.specs.Layouts.{HasGoodLayout}
use Rattle.wf_config_laws.proofs.Passed.{none, same, neither, both_passed, passed_if, at_range, given_up}

-- the tests of one item, of lists that are joined
passed_each : {A F : Type 0} (f : A → List (Option F)) (xs : List A) (k : ℕ) (x : A) → first_fault (flat_map f xs) ≡ None → slice_get xs k ≡ Some x → first_fault (f x) ≡ None
passed_each f [] k x e at = absurd (none x at)
passed_each f (y ∷ xs) zero x e at = ap (λ z. first_fault (f z)) (sym (same y x at)) ∙ (both_passed (f y) (flat_map f xs) e).0
passed_each f (y ∷ xs) (suc k) x e at = passed_each f xs k x (both_passed (f y) (flat_map f xs) e).1 at

at_most : (n m : ℕ) → nat_lt n m ≡ false → m ≤ n
at_most n m e = grind (arith, nat_tests)

-- ---- numbers of patches

pub some_patches : (config : Config) (name : Text) → (integer config name 1 ≡ negsuc 0) ⊎ HasNumber config 1 1 2000 name → Within 1 2000 (patch_count config name)
some_patches config name h =
    ⊎_elim
    (λ is. subst (Within 1 2000) (sym (ap (λ z. if int_lt z (pos 0) then 1 else amount config name 1) is)) (omega arith, omega arith))
    (λ (n : HasNumber config 1 1 2000 name). subst (Within 1 2000) (sym (ap (λ z. if int_lt z (pos 0) then 1 else amount config name 1) n.number ∙ not_below (amount config name 1))) n.within)
    h
  where
    not_below : (n : ℕ) → (if int_lt (pos n) (pos 0) then 1 else n) ≡ n
    not_below n = grind arith

-- ---- tests

record PatchesPass (plan : Plan) (l : Layout) (d : ℕ) : Type 0 where
  x : l.nproc_x ≤ (domain_of plan d).ide - 1
  y : l.nproc_y ≤ (domain_of plan d).jde - 1
  all : l.nproc_x * l.nproc_y ≤ 256

patches_pass : (plan : Plan) (l : Layout) (d : ℕ) → first_fault (patches_faults plan l d) ≡ None → PatchesPass plan l d
patches_pass plan l d e =
    let one = neither (fault_if (nat_lt ((domain_of plan d).ide - 1) l.nproc_x) (TooManyPatches d l.nproc_x)) _ e in
    let two = neither (fault_if (nat_lt ((domain_of plan d).jde - 1) l.nproc_y) (TooManyPatches d l.nproc_y)) _ one.1 in
    let three = neither (fault_if (nat_lt 256 (l.nproc_x * l.nproc_y)) (TooManyPatches d (l.nproc_x * l.nproc_y))) None two.1 in
    record {
      x = at_most ((domain_of plan d).ide - 1) l.nproc_x (passed_if _ _ one.0);
      y = at_most ((domain_of plan d).jde - 1) l.nproc_y (passed_if _ _ two.0);
      all = at_most 256 (l.nproc_x * l.nproc_y) (passed_if _ _ three.0);
    }

record LayoutPasses (plan : Plan) (l : Layout) : Type 0 where
  patches : (d : ℕ) → IsDomain plan d → PatchesPass plan l d
  tiles : l.tiles ≤ 64

layout_passes : (plan : Plan) (l : Layout) → first_fault (layout_faults plan l) ≡ None → LayoutPasses plan l
unfolding layout_faults
layout_passes plan l e =
    let parts = both_passed (flat_map (patches_faults plan l) (domains_of plan)) _ e in
    record {
      patches = λ d is.
          let place : 1 + (d - 1) ≡ d = omega (arith, is) in
          patches_pass plan l d
          (passed_each (patches_faults plan l) (domains_of plan) (d - 1) d parts.0 (at_range 1 (length plan.domains) (d - 1) (omega (arith, is)) ∙ ap (λ m. Some m) place));
      tiles = at_most 64 l.tiles (passed_if _ _ (neither (fault_if (nat_lt 64 l.tiles) (TooManyTiles l.tiles)) _ parts.1).0);
    }

-- ---- all of it

good_layout : (config : Config) (plan : Plan) (workers : ℕ) → HasRangedValues config → 1 ≤ length plan.domains → Within 1 64 workers
    → LayoutPasses plan (layout_from config workers) → HasGoodLayout plan (layout_from config workers)
good_layout config plan workers values some working passes =
    let own = values.own in
    let x = some_patches config (codes "nproc_x") own.nproc_x in
    let y = some_patches config (codes "nproc_y") own.nproc_y in
    let first = passes.patches 1 (omega arith, some) in
    record {
      ranged = record {
        nproc_x = x;
        nproc_y = y;
        patches = first.all;
        tiles = (own.numtiles.within.0, passes.tiles);
        groups = own.nio_groups.within;
        servers = (omega arith, omega (arith, own.nio_tasks_per_group.within));
        depth = own.quilt_depth.within;
        workers = working;
      };
      sound = record {
        some_x = x.0;
        some_y = y.0;
        room_x = λ d is. (passes.patches d is).x;
        room_y = λ d is. (passes.patches d is).y;
        tiles = own.numtiles.within.0;
        groups = own.nio_groups.within.0;
        servers = omega arith;
        depth = own.quilt_depth.within.0;
      };
    }

pub layouts_ranged : (config : Config) (plan : Plan) (workers : ℕ) (layout : Layout) → HasRangedValues config → 1 ≤ length plan.domains → Within 1 64 workers
    → layout_of config plan workers ≡ Ok layout → HasGoodLayout plan layout
unfolding layout_of
layouts_ranged config plan workers layout values some working e =
    let ends = given_up (first_fault (layout_faults plan (layout_from config workers))) (layout_from config workers) layout e in
    subst (HasGoodLayout plan) ends.1 (good_layout config plan workers values some working (layout_passes plan (layout_from config workers) ends.0))
