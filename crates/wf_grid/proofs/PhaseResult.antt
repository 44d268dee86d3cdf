-- A level that was computed whole is the level after the phase; and a point without a number is the first that overflows.
use Rattle.std.proofs.Common.{◌≡◌, ◌≢◌, ℕ, ◌*◌, ◌<◌, Bool, true, false, List, length, get_or, set, refl, sym, ap, subst, ◌∙◌, arith, Some, None, length-set, get_or-set_other, get_or-set_same}
use Rattle.std.specs.Prelude.{ℤ, pos, Option, option_map, IfSome, is_none, unwrap_or, find, ◌==◌, ◌&&◌, if◌then◌else◌}
use Rattle.wf_model.specs.declared.plan.Plan.{Plan}
use Rattle.wf_model.specs.declared.plan.Phase.{Phase}
use Rattle.wf_model.specs.Plans.{nx, ny, nz}
use Rattle.wf_model.specs.Value.{Answers}
use Rattle.wf_model.specs.Grids.{Grids}
use Rattle.wf_model.specs.Changes.{Change, Spot, changed, spots, overflows_at, overflow_in, phase_change, in_region}
use Rattle.wf_model.specs.Sound.{IsLevel}
use Rattle.wf_model.specs.Outcome.{no_list}
use Rattle.wf_laws.proofs.Bools.{same_number}
use Rattle.wf_grid.specs.Levels.{place_in, IsPlaceIn, level_spots, grids_of, lists_of, AreLists, number_after}
use Rattle.wf_grid.specs.declared.extents.Here.{Here}
use Rattle.wf_grid.specs.Filled.{spot_of, spot_at, phase_number, IsFilled, StopsAt}
use Rattle.wf_grid.proofs.Cells.{PointOf, point_of}
use Rattle.wf_grid.proofs.Filling.{length-spots, spot_is}
use Rattle.wf_grid.proofs.Finding.{find-none, find-at, find-one}
use Rattle.wf_grid.proofs.Lists.{place_below, lists_are, number_in}

-- a point overflows where it has no number after the change
over_is : (b : Bool) (v : Option ℤ) (z : ℤ) → (b && is_none v) ≡ is_none (if b then v else Some z)
over_is true v z = refl
over_is false v z = refl

pub overflows_is : (c : Change) (g : Grids) (p : Spot) → overflows_at c p ≡ is_none (number_after c g p)
overflows_is c g p = over_is (c.sets p.field p.k p.j p.i) (c.value p.field p.k p.j p.i) (g c.domain p.field p.k p.j p.i)

-- the number after the change is that of the grids after it
number_is : (e b : Bool) (v : Option ℤ) (y z : ℤ) → e ≡ true → (if b then v else Some y) ≡ Some z → (if e && b then unwrap_or v (pos 0) else y) ≡ z
number_is e true v y z ee h = (λ n. if ee n && true then unwrap_or (h n) (pos 0) else y)
number_is e false v y z ee h = (λ n. if ee n && false then unwrap_or v (pos 0) else y) ∙ same h
  where
    same : ◌≡◌ {A = Option ℤ} (Some y) (Some z) → y ≡ z
    same q = cc

pub changed_is : (c : Change) (g : Grids) (d f k j i : ℕ) (z : ℤ) → d ≡ c.domain → number_after c g (record { field = f; k = k; j = j; i = i }) ≡ Some z → changed c g d f k j i ≡ z
unfolding changed
changed_is c g d f k j i z e h =
    number_is (d == c.domain) (c.sets f k j i) (c.value f k j i) (g d f k j i) z (ap (λ (n : ℕ). d == n) (sym e) ∙ same_number d)
    ((λ n. if c.sets f k j i then c.value f k j i else Some (g (e n) f k j i)) ∙ h)

-- a point that is not set keeps its number
pub unchanged : (c : Change) (g : Grids) (d f k j i : ℕ) → c.sets f k j i ≡ false → changed c g d f k j i ≡ g d f k j i
unfolding changed
unchanged c g d f k j i e = (λ n. if (d == c.domain) && e n then unwrap_or (c.value f k j i) (pos 0) else g d f k j i) ∙ keeps (d == c.domain) (unwrap_or (c.value f k j i) (pos 0)) (g d f k j i)
  where
    keeps : (b : Bool) (x y : ℤ) → (if b && false then x else y) ≡ y
    keeps true x y = refl
    keeps false x y = refl

-- numbers that are not equal fail the test
pub not_equal : (a b : ℕ) → (a ≡ b → ⊥) → (a == b) ≡ false
not_equal a b h = by (a == b) refl
  where
    by : (t : Bool) → (a == b) ≡ t → (a == b) ≡ false
    by true e = absurd (h (same e))
      where
        same : (a == b) ≡ true → a ≡ b
        same q = grind arith
    by false e = e

module _ (plan : Plan) (m : Answers) (d : ℕ) (lists : List (List ℤ)) (step : ℕ) (ph : Phase) where
  abbrev pub grids : Grids
  grids = grids_of plan d lists

  abbrev pub change : Change
  change = phase_change plan m grids d step ph

  -- a phase sets no other level
  not_set : (f k j i : ℕ) → (f ≡ ph.writes → ⊥) → change.sets f k j i ≡ false
  not_set f k j i other = (λ n. not_equal f ph.writes other n && in_region plan d ph k j i)

  -- so no point of another level overflows
  other_level : (f : ℕ) → (f ≡ ph.writes → ⊥) → find (overflows_at change) (level_spots plan d f) ≡ None
  other_level f other =
      find-none (overflows_at change) (record { field = f; k = 0; j = 0; i = 0 }) (level_spots plan d f)
      (λ q l. let at : PointOf (nz plan f) (ny plan d f) (nx plan d f) q = point_of (nz plan f) (ny plan d f) (nx plan d f) q (omega (arith, l, length-spots plan d f)) in
      ap (overflows_at change) (spot_is plan d f at.k at.j at.i q at.inside at.is) ∙ (λ n. not_set f at.k at.j at.i other n && is_none (change.value f at.k at.j at.i)))

  -- so the first of all is that of the level
  of_level : IsLevel plan ph.writes → overflow_in plan change ≡ find (overflows_at change) (level_spots plan d ph.writes)
  unfolding spots level_spots
  of_level h = find-one (overflows_at change) (level_spots plan d) ph.writes 0 (length plan.fields) (omega arith) (omega (arith, h)) other_level

  -- where each point has a number, none overflows
  pub none_over : (numbers : List ℤ) → IsLevel plan ph.writes → length numbers ≡ nz plan ph.writes * (ny plan d ph.writes * nx plan d ph.writes) → IsFilled plan m d lists step ph (length numbers) numbers → overflow_in plan change ≡ None
  none_over numbers level l filled =
      of_level level ∙ find-none (overflows_at change) (record { field = ph.writes; k = 0; j = 0; i = 0 }) (level_spots plan d ph.writes)
      (λ q h. overflows_is change grids (spot_at plan d ph.writes q) ∙ ap is_none (filled q (omega (arith, h, l, length-spots plan d ph.writes))))

  -- and the point without a number is the first that overflows
  pub first_over : (p : Spot) → IsLevel plan ph.writes → StopsAt plan m d lists step ph p → overflow_in plan change ≡ Some p
  first_over p level s =
      of_level level
      ∙ find-at (overflows_at change) (record { field = ph.writes; k = 0; j = 0; i = 0 }) (level_spots plan d ph.writes) s.0 s.1.within
      (λ q h. overflows_is change grids (spot_at plan d ph.writes q) ∙ s.1.before q h)
      (overflows_is change grids (spot_at plan d ph.writes s.0) ∙ ap (λ (x : Spot). is_none (phase_number plan m d lists step ph x)) s.1.spot ∙ ap is_none s.1.none)
      ∙ ap Some s.1.spot

  -- the lists with the level's numbers are those after the phase
  pub after_phase : (numbers : List ℤ) → AreLists plan d lists → IsLevel plan ph.writes → length numbers ≡ nz plan ph.writes * (ny plan d ph.writes * nx plan d ph.writes) → IsFilled plan m d lists step ph (length numbers) numbers →
      set lists ph.writes numbers ≡ lists_of plan d (changed change grids)
  after_phase numbers are level l filled =
      lists_are plan d (set lists ph.writes numbers) (changed change grids)
      (length-set lists ph.writes numbers ∙ are.levels)
      (λ f h. by_length f h (f == ph.writes) refl)
      (λ f k j i h inside. by_number f k j i h inside (f == ph.writes) refl)
    where
      within : ph.writes < length lists
      within = omega (arith, level, are.levels)

      equal : (a b : ℕ) → (a == b) ≡ true → a ≡ b
      equal a b e = grind arith

      differ : (a b : ℕ) → (a == b) ≡ false → a ≡ b → ⊥
      differ a b e q = grind arith

      here : get_or (set lists ph.writes numbers) ph.writes no_list ≡ numbers
      here = let h : ph.writes < length lists = within in rw get_or-set_same refl

      there : (f : ℕ) → (f ≡ ph.writes → ⊥) → get_or (set lists ph.writes numbers) f no_list ≡ get_or lists f no_list
      there f ne = let n : f ≢ ph.writes = ne in rw get_or-set_other refl

      by_length : (f : ℕ) → IsLevel plan f → (b : Bool) → (f == ph.writes) ≡ b → length (get_or (set lists ph.writes numbers) f no_list) ≡ nz plan f * (ny plan d f * nx plan d f)
      by_length f h true e =
          subst (λ (w : ℕ). length (get_or (set lists ph.writes numbers) w no_list) ≡ nz plan w * (ny plan d w * nx plan d w)) (sym (equal f ph.writes e)) (ap length here ∙ l)
      by_length f h false e = ap length (there f (differ f ph.writes e)) ∙ are.each f h

      by_number : (f k j i : ℕ) → IsLevel plan f → IsPlaceIn (nz plan f) (ny plan d f) (nx plan d f) k j i → (b : Bool) → (f == ph.writes) ≡ b →
          get_or (get_or (set lists ph.writes numbers) f no_list) (place_in (ny plan d f) (nx plan d f) k j i) (pos 0) ≡ changed change grids d f k j i
      by_number f k j i h inside true e =
          subst (λ (w : ℕ). IsPlaceIn (nz plan w) (ny plan d w) (nx plan d w) k j i → get_or (get_or (set lists ph.writes numbers) w no_list) (place_in (ny plan d w) (nx plan d w) k j i) (pos 0) ≡ changed change grids d w k j i)
          (sym (equal f ph.writes e)) written inside
        where
          written : IsPlaceIn (nz plan ph.writes) (ny plan d ph.writes) (nx plan d ph.writes) k j i →
              get_or (get_or (set lists ph.writes numbers) ph.writes no_list) (place_in (ny plan d ph.writes) (nx plan d ph.writes) k j i) (pos 0) ≡ changed change grids d ph.writes k j i
          written at =
              let q : ℕ = place_in (ny plan d ph.writes) (nx plan d ph.writes) k j i in
              let below : place_in (ny plan d ph.writes) (nx plan d ph.writes) k j i < length numbers = omega (arith, l, place_below (nz plan ph.writes) (ny plan d ph.writes) (nx plan d ph.writes) k j i at) in
              ap (λ (x : List ℤ). get_or x (place_in (ny plan d ph.writes) (nx plan d ph.writes) k j i) (pos 0)) here
              ∙ sym (changed_is change grids d ph.writes k j i (get_or numbers (place_in (ny plan d ph.writes) (nx plan d ph.writes) k j i) (pos 0)) refl
              (ap (phase_number plan m d lists step ph) (sym (spot_is plan d ph.writes k j i (place_in (ny plan d ph.writes) (nx plan d ph.writes) k j i) at refl)) ∙ filled (place_in (ny plan d ph.writes) (nx plan d ph.writes) k j i) below))
      by_number f k j i h inside false e =
          ap (λ (x : List ℤ). get_or x (place_in (ny plan d f) (nx plan d f) k j i) (pos 0)) (there f (differ f ph.writes e))
          ∙ number_in plan d lists f k j i
          ∙ sym (unchanged change grids d f k j i (not_set f k j i (differ f ph.writes e)))

module _ (plan : Plan) (m : Answers) (d : ℕ) (lists : List (List ℤ)) (step : ℕ) (ph : Phase) (r : Option Here) (numbers : List ℤ)
    (level : IsLevel plan ph.writes) (size : length numbers ≡ nz plan ph.writes * (ny plan d ph.writes * nx plan d ph.writes))
    (done : r ≡ None → IsFilled plan m d lists step ph (length numbers) numbers) where
  -- what the loop names is the first point that overflows
  pub names : IfSome r (λ h. StopsAt plan m d lists step ph (spot_of ph.writes h)) → option_map (spot_of ph.writes) r ≡ overflow_in plan (change plan m d lists step ph)
  names stopped = by r refl stopped
    where
      by : (o : Option Here) → r ≡ o → IfSome o (λ h. StopsAt plan m d lists step ph (spot_of ph.writes h)) → option_map (spot_of ph.writes) r ≡ overflow_in plan (change plan m d lists step ph)
      by None e s = ap (option_map (spot_of ph.writes)) e ∙ sym (none_over plan m d lists step ph numbers level size (done e))
      by (Some h) e s = ap (option_map (spot_of ph.writes)) e ∙ sym (first_over plan m d lists step ph (spot_of ph.writes h) level s)

  -- and without one the lists are those after the phase
  pub sets : AreLists plan d lists → r ≡ None → (after : List (List ℤ)) → after ≡ set lists ph.writes numbers →
      after ≡ (if is_none r then lists_of plan d (changed (change plan m d lists step ph) (grids plan m d lists step ph)) else lists)
  sets are e after is =
      is ∙ after_phase plan m d lists step ph numbers are level size (done e)
      ∙ (λ n. if is_none (sym e n) then lists_of plan d (changed (change plan m d lists step ph) (grids plan m d lists step ph)) else lists)
