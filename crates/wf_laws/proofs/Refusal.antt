-- The test of a read is the rule, and a read that the rule refuses meets a cell that is not fresh.
use Rattle.std.proofs.Common.{◌≡◌, ⊎_elim, ℕ, ◌+◌, ◌*◌, ◌≤◌, ◌<◌, Bool, true, false, List, ◌++◌, length, reverse, take, drop, refl, sym, ap, subst, ◌∙◌, arith, append_assoc}
use Rattle.std.proofs.Math.ListN.{take-append-drop}
use Rattle.std.proofs.lemmas.List.{reverse-append}
use Rattle.std.specs.Prelude.{ℤ, ◌+ℤ◌, ◌&&◌, ◌||◌, ◌==◌, not, if◌then◌else◌}
use Rattle.std.specs.List.{list_all}
use Rattle.wf_model.specs.declared.plan.Plan.{Plan}
use Rattle.wf_model.specs.declared.plan.Phase.{Phase}
use Rattle.wf_model.specs.Plans.{domain_of, item_of, ny, nz, up_to, level_at, point_x, point_y, is_within, is_inside}
use Rattle.wf_model.specs.Changes.{in_region, is_phase_level}
use Rattle.wf_model.specs.Patches.{Split, fine, in_span, is_own, computes, patches_of, span_list}
use Rattle.wf_model.specs.Cycle.{Turn, cycle_of, before_items}
use Rattle.wf_model.specs.Marks.{all_fresh, marks_after}
use Rattle.wf_model.specs.Covered.{Asked, all_asked, is_cell_covered, IsReadCovered, walk, looked_back}
use Rattle.wf_model.specs.Uncovered.{computed_box, is_patch_covered, is_read_covered}
use Rattle.wf_model.specs.Sound.{IsSoundItem, IsSoundPhase, IsSoundPlan}
use Rattle.wf_laws.specs.Walks.{ReadTestIsTheRule, third_cycle, ReadsAStaleCell, RefusedReadsAreStale}
use Rattle.wf_laws.proofs.Bools.{and_left, and_right, or_left, split_bool, differ}
use Rattle.wf_laws.proofs.Members.{In, In-range, In-range_out, Contains-In, list_all-In, In-list_all, list_all-not}
use Rattle.wf_laws.proofs.Cells.{In-span}
use Rattle.wf_laws.proofs.PhaseStep.{computes-region, region-in}
use Rattle.wf_laws.proofs.Right.{computes-in}
use Rattle.wf_laws.proofs.Grows.{walk-shorter}
use Rattle.wf_laws.proofs.AnyLayout.{marks_agree, IsAsked, asked_out}

-- a level of a phase's region is one of its field's
phase_level : (plan : Plan) (ph : Phase) (k : ℕ) → ph.to ≤ nz plan ph.writes → is_phase_level plan ph k ≡ true → (1 ≤ k) × (k ≤ nz plan ph.writes)
phase_level plan ph k top h = at ph.from ph.to (nz plan ph.writes) k top h
  where
    at : (a b n k : ℕ) → b ≤ n → (if a == 0 then is_within 1 n k else is_within a b k) ≡ true → (1 ≤ k) × (k ≤ n)
    at a b n k top h = (grind arith, grind arith)

module _ (plan : Plan) (a : Asked) (sound : IsSoundPlan plan) (is : IsAsked plan a) where
  -- the layout of one point a patch
  abbrev finest : Split
  finest = fine plan a.domain

  -- the phase of a read is sound
  phase_sound : IsSoundPhase plan a.phase
  unfolding item_of
  phase_sound = subst (IsSoundItem plan) is.phase (sound.items a.item _ is.within)

  -- a computed cell's level is one of those that the test goes over
  level_there : (p k : ℕ) (j i : ℤ) → computes plan (fine plan a.domain) a.domain p a.phase k j i ≡ true → In k (up_to (nz plan a.phase.writes))
  unfolding in_region
  level_there p k j i c =
      let region = region-in plan a.domain a.phase k j i (computes-region plan (fine plan a.domain) a.domain p a.phase k j i c) in
      let x = point_x plan a.domain a.phase.writes i in
      let y = point_y plan a.domain a.phase.writes j in
      let level = phase_level plan a.phase k phase_sound.top
      (and_left (is_phase_level plan a.phase k) _
      (and_left (is_phase_level plan a.phase k && is_inside (domain_of plan a.domain).periodic_y a.phase.my (ny plan a.domain a.phase.writes) (point_y plan a.domain a.phase.writes j)) _ region)) in
      In-range k 1 (nz plan a.phase.writes) level.0 (omega (arith, level.1))

  -- each patch passes where the test holds
  patch_passes : (p : ℕ) → p < finest.in_x * finest.in_y → is_read_covered plan a ≡ true → is_patch_covered plan a p ≡ true
  unfolding is_read_covered
  patch_passes p hp h = In-list_all (is_patch_covered plan a) p (patches_of (fine plan a.domain)) h (In-range p 0 (finest.in_x * finest.in_y) (omega arith) (omega (arith, hp)))

  -- where a patch passes, a point that its test goes over is covered, and one that it does not compute is anyway
  pub point_passes : (p : ℕ) → is_patch_covered plan a p ≡ true → (k : ℕ) (j i : ℤ) → is_cell_covered plan a p k j i ≡ true
  point_passes p h k j i =
      ⊎_elim
      (λ c.
      let box = computes-in plan (fine plan a.domain) a.domain p a.phase k j i c in
      let in_y : in_span (computed_box plan a p).y j ≡ true = and_left (in_span (computed_box plan a p).y j) (in_span (computed_box plan a p).x i) box in
      let in_x : in_span (computed_box plan a p).x i ≡ true = and_right (in_span (computed_box plan a p).y j) (in_span (computed_box plan a p).x i) box in
      In-list_all (λ x. is_cell_covered plan a p k j x) i (span_list (computed_box plan a p).x)
      (In-list_all (λ y. list_all (λ x. is_cell_covered plan a p k y x) (span_list (computed_box plan a p).x)) j (span_list (computed_box plan a p).y)
      (In-list_all (λ m. list_all (λ y. list_all (λ x. is_cell_covered plan a p m y x) (span_list (computed_box plan a p).x)) (span_list (computed_box plan a p).y)) k (up_to (nz plan a.phase.writes))
      h (level_there p k j i c)) (In-span (computed_box plan a p).y j in_y)) (In-span (computed_box plan a p).x i in_x))
      (λ c. or_left (not (computes plan (fine plan a.domain) a.domain p a.phase k j i)) _ (ap not c))
      (split_bool (computes plan (fine plan a.domain) a.domain p a.phase k j i))

  -- the test leads to the rule
  test_rule : is_read_covered plan a ≡ true → IsReadCovered plan a
  unfolding IsReadCovered
  test_rule h p k j i hp = point_passes p (patch_passes p hp h) k j i

  -- and the rule to the test
  rule_test : IsReadCovered plan a → is_read_covered plan a ≡ true
  unfolding is_read_covered IsReadCovered
  rule_test h =
      list_all-In (is_patch_covered plan a) (patches_of (fine plan a.domain))
      (λ p t. let b = In-range_out p 0 (finest.in_x * finest.in_y) t in
      list_all-In (λ m. list_all (λ y. list_all (λ x. is_cell_covered plan a p m y x) (span_list (computed_box plan a p).x)) (span_list (computed_box plan a p).y)) (up_to (nz plan a.phase.writes))
      (λ k u. list_all-In (λ y. list_all (λ x. is_cell_covered plan a p k y x) (span_list (computed_box plan a p).x)) (span_list (computed_box plan a p).y)
      (λ j v. list_all-In (λ x. is_cell_covered plan a p k j x) (span_list (computed_box plan a p).x) (λ i w. h p k j i (omega (arith, b.1))))))

  -- the item's place in the cycle
  abbrev at : ℕ
  at = length (before_items a.domain) + a.item

  -- the third cycle backwards begins with what the rule looks back at
  third_back : (turns : List Turn) (n : ℕ) → reverse (turns ++ turns ++ take n turns) ≡ looked_back turns n ++ reverse (take n turns)
  third_back turns n =
      reverse-append (turns ++ turns) (take n turns)
      ∙ ap (λ (us : List Turn). reverse (take n turns) ++ us) (reverse-append turns turns)
      ∙ ap (λ (us : List Turn). reverse (take n turns) ++ (reverse turns ++ us)) (ap reverse (sym (take-append-drop n turns)) ∙ reverse-append (take n turns) (drop n turns))
      ∙ regroup (reverse (take n turns)) (reverse turns) (reverse (drop n turns)) (reverse (take n turns))
    where
      regroup : (x y z w : List Turn) → x ++ (y ++ (z ++ w)) ≡ ((x ++ y) ++ z) ++ w
      regroup x y z w = ap (λ (us : List Turn). x ++ us) (sym (append_assoc y z w)) ∙ sym (append_assoc x (y ++ z) w) ∙ ap (λ (us : List Turn). us ++ w) (sym (append_assoc x y z))

  -- a cell at which the rule fails is not fresh in the third cycle
  stale_cell : (p k : ℕ) (j i : ℤ) → walk plan (fine plan a.domain) a.domain p k j i (looked_back (cycle_of plan a.domain) at) a.read.field ≡ false →
      marks_after plan (fine plan a.domain) a.domain p (third_cycle plan a.domain at) all_fresh a.read.field k j i ≡ false
  stale_cell p k j i h =
      marks_agree plan (fine plan a.domain) a.domain p a.read.field k j i (third_cycle plan a.domain at)
      ∙ ap (λ (us : List Turn). walk plan (fine plan a.domain) a.domain p k j i us a.read.field) (third_back (cycle_of plan a.domain) at)
      ∙ ⊎_elim
      (λ t. absurd (differ (sym (walk-shorter plan (fine plan a.domain) a.domain p k j i (looked_back (cycle_of plan a.domain) at) (reverse (take at (cycle_of plan a.domain))) a.read.field t) ∙ h)))
      (λ t. t)
      (split_bool (walk plan (fine plan a.domain) a.domain p k j i (looked_back (cycle_of plan a.domain) at ++ reverse (take at (cycle_of plan a.domain))) a.read.field))

  -- the parts of a cell that is not covered
  parts_of : (c o w : Bool) → (not c || (o || w)) ≡ false → (c ≡ true) × (o ≡ false) × (w ≡ false)
  parts_of true true w h = absurd (differ h)
  parts_of true false w h = (refl, refl, h)
  parts_of false o w h = absurd (differ h)

  -- a cell that fails is stale
  stale_at : (p k : ℕ) (j i : ℤ) → p < finest.in_x * finest.in_y → is_cell_covered plan a p k j i ≡ false → ReadsAStaleCell plan a
  stale_at p k j i hp h =
      let parts = parts_of (computes plan (fine plan a.domain) a.domain p a.phase k j i) (is_own plan (fine plan a.domain) a.domain p a.read.field (j +ℤ a.read.dj) (i +ℤ a.read.di)) _ h in
      let l : ℕ = level_at plan a.read.field k a.read.dk in
      record {
        patch = p;
        k = k;
        j = j;
        i = i;
        below = hp;
        computed = parts.0;
        stale = λ n. parts.1 n || stale_cell p l (j +ℤ a.read.dj) (i +ℤ a.read.di) parts.2 n;
      }

  -- a refused read has such a cell
  refused_stale : (IsReadCovered plan a → ⊥) → ReadsAStaleCell plan a
  unfolding is_read_covered
  refused_stale refused =
      let no : is_read_covered plan a ≡ false = ⊎_elim (λ t. absurd (refused (test_rule t))) (λ t. t) (split_bool (is_read_covered plan a)) in
      let p = list_all-not (is_patch_covered plan a) (patches_of (fine plan a.domain)) (open_test no) in
      let k = list_all-not (λ m. list_all (λ y. list_all (λ x. is_cell_covered plan a p.0 m y x) (span_list (computed_box plan a p.0).x)) (span_list (computed_box plan a p.0).y)) (up_to (nz plan a.phase.writes)) p.2 in
      let j = list_all-not (λ y. list_all (λ x. is_cell_covered plan a p.0 k.0 y x) (span_list (computed_box plan a p.0).x)) (span_list (computed_box plan a p.0).y) k.2 in
      let i = list_all-not (λ x. is_cell_covered plan a p.0 k.0 j.0 x) (span_list (computed_box plan a p.0).x) j.2 in
      let b = In-range_out p.0 0 (finest.in_x * finest.in_y) p.1 in
      stale_at p.0 k.0 j.0 i.0 (omega (arith, b.1)) i.2
    where
      open_test : is_read_covered plan a ≡ false → list_all (is_patch_covered plan a) (patches_of (fine plan a.domain)) ≡ false
      open_test h = h

-- the test of a read is the rule
pub read_test : ReadTestIsTheRule
read_test plan a sound h = let is = asked_out plan a (Contains-In a (all_asked plan) h) in (test_rule plan a sound is, rule_test plan a sound is)

-- a refused read meets a stale cell
pub refused_reads : RefusedReadsAreStale
refused_reads plan a sound h refused = refused_stale plan a sound (asked_out plan a (Contains-In a (all_asked plan) h)) refused
