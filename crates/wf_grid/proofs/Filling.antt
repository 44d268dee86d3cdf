-- One turn of the loop that computes a level: the points so far, and the next one.
use Rattle.std.proofs.Common.{◌≡◌, ◌≢◌, ℕ, ◌+◌, ◌*◌, ◌<◌, ◌≤◌, List, length, get_or, set, refl, sym, ap, subst, ◌∙◌, arith, Some, None, below_more, get_or-set_other, get_or-set_same}
use Rattle.std.specs.Prelude.{ℤ, pos, is_none}
use Rattle.wf_model.specs.declared.plan.Plan.{Plan}
use Rattle.wf_model.specs.declared.plan.Phase.{Phase}
use Rattle.wf_model.specs.Plans.{nx, ny, nz}
use Rattle.wf_model.specs.Value.{Answers}
use Rattle.wf_model.specs.Changes.{Spot}
use Rattle.wf_model.specs.declared.extents.Extents.{Extents}
use Rattle.wf_grid.specs.Levels.{place_in, IsPlaceIn, level_spots}
use Rattle.wf_grid.specs.Filled.{AreExtents, spot_at, phase_number, IsFilled, StopsAt}
use Rattle.wf_grid.proofs.Cells.{cells, length-cells, get_or-cells, level_within}

-- as many points as numbers in the list
pub length-spots : (plan : Plan) (d f : ℕ) → length (level_spots plan d f) ≡ nz plan f * (ny plan d f * nx plan d f)
unfolding level_spots cells
length-spots plan d f = length-cells (λ k j i. record { field = f; k = k; j = j; i = i }) (nz plan f) (ny plan d f) (nx plan d f)

-- the point at a place
pub spot_is : (plan : Plan) (d f k j i q : ℕ) → IsPlaceIn (nz plan f) (ny plan d f) (nx plan d f) k j i → place_in (ny plan d f) (nx plan d f) k j i ≡ q →
    spot_at plan d f q ≡ record { field = f; k = k; j = j; i = i }
unfolding level_spots cells
spot_is plan d f k j i q h e =
    ap (spot_at plan d f) (sym e) ∙ get_or-cells (λ k j i. record { field = f; k = k; j = j; i = i }) (nz plan f) (ny plan d f) (nx plan d f) (record { field = f; k = 0; j = 0; i = 0 }) k j i h

-- a place of the list has its point in the level
pub inside_at : (plan : Plan) (d f k j i q : ℕ) → place_in (ny plan d f) (nx plan d f) k j i ≡ q → q < nz plan f * (ny plan d f * nx plan d f) →
    1 ≤ k → (1 ≤ j) × (j ≤ ny plan d f) → (1 ≤ i) × (i ≤ nx plan d f) → IsPlaceIn (nz plan f) (ny plan d f) (nx plan d f) k j i
inside_at plan d f k j i q e h low y x =
    record { in_z = (low, level_within (nz plan f) (ny plan d f) (nx plan d f) k j i low (subst (λ (m : ℕ). m < nz plan f * (ny plan d f * nx plan d f)) (sym e) h)); in_y = y; in_x = x }

-- a point of the level lies in the extents that the code computes
pub in_extents : (plan : Plan) (d f k j i : ℕ) (e : Extents) → AreExtents plan d f e → IsPlaceIn (nz plan f) (ny plan d f) (nx plan d f) k j i → IsPlaceIn e.levels e.rows e.columns k j i
in_extents plan d f k j i e x h =
    record { in_z = (h.in_z.0, omega (arith, x.levels, h.in_z.1)); in_y = (h.in_y.0, omega (arith, x.rows, h.in_y.1)); in_x = (h.in_x.0, omega (arith, x.columns, h.in_x.1)) }

module _ (plan : Plan) (m : Answers) (d : ℕ) (lists : List (List ℤ)) (step : ℕ) (ph : Phase) (n : ℕ) (numbers : List ℤ) (filled : IsFilled plan m d lists step ph n numbers) where
  -- one number more
  pub filled_more : (v : ℤ) (p : Spot) → n < length numbers → spot_at plan d ph.writes n ≡ p → phase_number plan m d lists step ph p ≡ Some v → IsFilled plan m d lists step ph (n + 1) (set numbers n v)
  filled_more v p h e is =
      below_more (λ q. phase_number plan m d lists step ph (spot_at plan d ph.writes q) ≡ Some (get_or (set numbers n v) q (pos 0))) n
      (λ q l. let ne : q ≢ n = omega arith in filled q l ∙ ap Some (sym (get_or-set_other' q ne)))
      (ap (phase_number plan m d lists step ph) e ∙ is ∙ ap Some (sym here))
    where
      get_or-set_other' : (q : ℕ) → q ≢ n → get_or (set numbers n v) q (pos 0) ≡ get_or numbers q (pos 0)
      get_or-set_other' q ne = rw get_or-set_other refl

      here : get_or (set numbers n v) n (pos 0) ≡ v
      here = rw get_or-set_same refl

  -- or none at this point
  pub stops : (p : Spot) → n < nz plan ph.writes * (ny plan d ph.writes * nx plan d ph.writes) → spot_at plan d ph.writes n ≡ p → phase_number plan m d lists step ph p ≡ None → StopsAt plan m d lists step ph p
  stops p h e none = (
    n,
    record {
      within = omega (arith, h, length-spots plan d ph.writes);
      spot = e;
      none = none;
      before = λ q l. ap is_none (filled q l);
    },
  )
