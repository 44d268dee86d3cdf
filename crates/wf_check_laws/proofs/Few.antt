-- The patches whose column and row repeat no other decide of a read.
use Rattle.std.proofs.Common.{◌≡◌, ⊎_elim, inl, inr, ℕ, zero, suc, ◌+◌, ◌-◌, ◌*◌, ◌/◌, ◌%◌, ◌<◌, ◌≤◌, Bool, true, false, cond, List, [], ◌∷◌, refl, sym, ap, subst, ◌∙◌, arith}
use Rattle.std.proofs.Math.Nat.{mod-add-div', suc-mul, mul-le-mul_right, mul_comm, mod-lt, div-lt_iff_lt-mul}
use Rattle.std.proofs.lemmas.Nat.{div-mul-add, mod-mul-add}
use Rattle.std.proofs.lemmas.Int.{ints}
use Rattle.std.specs.Prelude.{ℤ, pos, ◌+ℤ◌, ◌-ℤ◌, not, find, Some}
use Rattle.std.specs.List.{list_all, Contains}
use Rattle.wf_model.specs.declared.plan.Plan.{Plan}
use Rattle.wf_model.specs.Plans.{domain_of, nz, up_to}
use Rattle.wf_model.specs.Patches.{fine, patches_of, span_list}
use Rattle.wf_model.specs.Covered.{Asked, all_asked, is_cell_covered, IsReadCovered}
use Rattle.wf_model.specs.Uncovered.{computed_box, is_patch_covered, is_read_covered, first_uncovered}
use Rattle.wf_model.specs.Sound.{IsSoundPlan}
use Rattle.wf_laws.proofs.Bools.{or_right, or_else, split_bool}
use Rattle.wf_laws.proofs.Members.{In, In-range, Contains-In, In-Contains, list_all-In, In-list_all}
use Rattle.wf_laws.proofs.AnyLayout.{asked_out}
use Rattle.wf_laws.proofs.Refusal.{point_passes, read_test}
use Rattle.wf_check_laws.specs.Repeats.{repeats_x, repeats_y, patch_in, RepresentativesPass, AllPass, RepresentativesAreEnough, passes_or_repeats, is_covered_at_few, FewPatchesDecide, FewPatchesFindTheFirst}
use Rattle.wf_check_laws.proofs.Steps.{same_bool}
use Rattle.wf_check_laws.proofs.Levels.{few_levels, all_levels}
use Rattle.wf_check_laws.proofs.Columns.{columns_alike, not_first as not_first_column}
use Rattle.wf_check_laws.proofs.Rows.{rows_alike, not_first as not_first_row}

-- one step down
step_down : (z : ℤ) → z ≡ (z -ℤ pos 1) +ℤ pos 1
step_down z = omega (arith, ints)

-- the next number
next : (n : ℕ) → suc n ≡ n + 1
next n = omega arith

module _ (plan : Plan) (a : Asked) (sound : IsSoundPlan plan) (asked : Contains (all_asked plan) a) where
  -- how many columns, and rows
  abbrev wide : ℕ
  wide = (domain_of plan a.domain).ide - 1

  abbrev tall : ℕ
  tall = (domain_of plan a.domain).jde - 1

  -- a patch that passes covers each point
  covers : (p : ℕ) → is_patch_covered plan a p ≡ true → (k : ℕ) (j i : ℤ) → is_cell_covered plan a p k j i ≡ true
  covers = point_passes plan a sound (asked_out plan a (Contains-In a (all_asked plan) asked))

  -- a patch whose points are all covered passes
  patch_passes : (p : ℕ) → ((k : ℕ) (j i : ℤ) → is_cell_covered plan a p k j i ≡ true) → is_patch_covered plan a p ≡ true
  patch_passes p h =
      list_all-In (λ m. list_all (λ y. list_all (λ x. is_cell_covered plan a p m y x) (span_list (computed_box plan a p).x)) (span_list (computed_box plan a p).y)) (up_to (nz plan a.phase.writes))
      (λ k u. list_all-In (λ y. list_all (λ x. is_cell_covered plan a p k y x) (span_list (computed_box plan a p).x)) (span_list (computed_box plan a p).y)
      (λ j v. list_all-In (λ x. is_cell_covered plan a p k j x) (span_list (computed_box plan a p).x) (λ i w. h k j i)))

  -- down a column that repeats none
  column_passes : RepresentativesPass plan a → (x : ℕ) → x < wide → repeats_x plan a x ≡ false → (y : ℕ) → y < tall → (k : ℕ) (j i : ℤ) → is_cell_covered plan a (patch_in plan a y x) k j i ≡ true
  column_passes pass x hx none zero hy k j i =
      ⊎_elim (λ t. absurd (not_first_row plan a t)) (λ t. covers (patch_in plan a zero x) (few_levels plan a (patch_in plan a zero x) (pass zero x hy hx t none)) k j i) (split_bool (repeats_y plan a zero))
  column_passes pass x hx none (suc y) hy k j i =
      ⊎_elim
      (λ t.
      (λ n. is_cell_covered plan a (patch_in plan a (next y n) x) k (step_down j n) i)
      ∙ rows_alike plan a y x k (j -ℤ pos 1) i asked (subst (λ (m : ℕ). repeats_y plan a m ≡ true) (next y) t) hx
      ∙ column_passes pass x hx none y (omega arith) k (j -ℤ pos 1) i)
      (λ t. covers (patch_in plan a (suc y) x) (few_levels plan a (patch_in plan a (suc y) x) (pass (suc y) x hy hx t none)) k j i)
      (split_bool (repeats_y plan a (suc y)))

  -- along all columns
  all_pass : RepresentativesPass plan a → (x : ℕ) → x < wide → (y : ℕ) → y < tall → (k : ℕ) (j i : ℤ) → is_cell_covered plan a (patch_in plan a y x) k j i ≡ true
  all_pass pass zero hx y hy k j i =
      ⊎_elim (λ t. absurd (not_first_column plan a t)) (λ t. column_passes pass zero hx t y hy k j i) (split_bool (repeats_x plan a zero))
  all_pass pass (suc x) hx y hy k j i =
      ⊎_elim
      (λ t.
      (λ n. is_cell_covered plan a (patch_in plan a y (next x n)) k j (step_down i n))
      ∙ columns_alike plan a y x k j (i -ℤ pos 1) asked (subst (λ (m : ℕ). repeats_x plan a m ≡ true) (next x) t)
      ∙ all_pass pass x (omega arith) y hy k j (i -ℤ pos 1))
      (λ t. column_passes pass (suc x) hx t y hy k j i)
      (split_bool (repeats_x plan a (suc x)))

  -- a patch stands in a column and a row
  placed : (p : ℕ) → p < wide * tall → (p % wide < wide) × (p / wide < tall) × (patch_in plan a (p / wide) (p % wide) ≡ p)
  placed p h =
      let some : 0 < wide = some_of wide tall p h in (
        mod-lt p some,
        (div-lt_iff_lt-mul some).1 (omega (arith, h, mul_comm wide tall)),
        omega (arith, mod-add-div' p wide),
      )
    where
      some_of : (w t p : ℕ) → p < w * t → 0 < w
      some_of zero t p h = grind arith
      some_of (suc w) t p h = omega arith

  -- and a column and a row hold a patch
  place_below : (y x : ℕ) → y < tall → x < wide → patch_in plan a y x < wide * tall
  place_below y x hy hx =
      let rows : suc y * wide ≤ tall * wide = mul-le-mul_right wide hy in
      omega (arith, rows, hx, suc-mul y wide, mul_comm wide tall)

  -- all patches pass where these do
  rule_holds : RepresentativesPass plan a → IsReadCovered plan a
  unfolding IsReadCovered
  rule_holds pass p k j i hp =
      let at = placed p hp in
      ap (λ (q : ℕ). is_cell_covered plan a q k j i) (sym at.2) ∙ all_pass pass (p % wide) at.0 (p / wide) at.1 k j i

  -- each passes where the rule holds
  these_pass : IsReadCovered plan a → AllPass plan a
  unfolding IsReadCovered
  these_pass h y x hy hx = all_levels plan a (patch_in plan a y x) (patch_passes (patch_in plan a y x) (λ k j i. h (patch_in plan a y x) k j i (place_below y x hy hx)))

  -- the short test leads to the long one
  few_all : is_covered_at_few plan a ≡ true → is_read_covered plan a ≡ true
  unfolding is_covered_at_few
  few_all h =
      (read_test plan a sound asked).1 (rule_holds (λ y x hy hx ry rx.
      let t : passes_or_repeats plan a (patch_in plan a y x) ≡ true = In-list_all (passes_or_repeats plan a) (patch_in plan a y x) (patches_of (fine plan a.domain)) h (In-range (patch_in plan a y x) 0 (wide * tall) (omega arith) (omega (arith, place_below y x hy hx))) in
      let column : repeats_x plan a (patch_in plan a y x % wide) ≡ false = ap (repeats_x plan a) (mod-mul-add y wide x hx) ∙ rx in
      let row : repeats_y plan a (patch_in plan a y x / wide) ≡ false = ap (repeats_y plan a) (div-mul-add y wide x hx) ∙ ry in
      or_else _ _ row (or_else _ _ column t)))

  -- and the long one to the short one
  all_few : is_read_covered plan a ≡ true → is_covered_at_few plan a ≡ true
  unfolding is_covered_at_few is_read_covered
  all_few h =
      list_all-In (passes_or_repeats plan a) (patches_of (fine plan a.domain))
      (λ p u. or_right (repeats_x plan a (p % wide)) _ (or_right (repeats_y plan a (p / wide)) _ (all_levels plan a p (In-list_all (is_patch_covered plan a) p (patches_of (fine plan a.domain)) h u))))

-- the patches whose column and row repeat no other are enough
pub representatives : RepresentativesAreEnough
representatives plan a sound asked = (rule_holds plan a sound asked, these_pass plan a sound asked)

-- the short test is the long one
pub few_decide : FewPatchesDecide
few_decide plan a sound asked = same_bool _ _ (few_all plan a sound asked) (all_few plan a sound asked)

-- the first one of which equal tests hold
find_same : {X : Type 0} (f g : X → Bool) (xs : List X) → ((x : X) → In x xs → f x ≡ g x) → find f xs ≡ find g xs
find_same f g [] h = refl
find_same f g (x ∷ xs) h = λ n. cond (h x (inl refl) n) (Some x) (find_same f g xs (λ y t. h y (inr t)) n)

-- so both find the same read first
pub few_find : FewPatchesFindTheFirst
unfolding first_uncovered
few_find plan sound =
    find_same (λ a. not (is_covered_at_few plan a)) (λ a. not (is_read_covered plan a)) (all_asked plan) (λ a h. ap not (few_decide plan a sound (In-Contains a (all_asked plan) h)))
