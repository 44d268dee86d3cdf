-- One point more of a row that is computed.
use Rattle.std.proofs.Common.{◌≡◌, ℕ, ◌+◌, ◌*◌, ◌<◌, ◌≤◌, List, length, set, sym, subst, ◌∙◌, arith, Some, None}
use Rattle.std.specs.Prelude.{ℤ}
use Rattle.wf_model.specs.declared.plan.Plan.{Plan}
use Rattle.wf_model.specs.declared.plan.Phase.{Phase}
use Rattle.wf_model.specs.Plans.{nx, ny, nz}
use Rattle.wf_model.specs.Value.{Answers}
use Rattle.wf_model.specs.declared.extents.Extents.{Extents}
use Rattle.wf_grid.specs.Levels.{AreLists, IsPlaceIn, place_in}
use Rattle.wf_grid.specs.Filled.{AreExtents, phase_number, spot_at, IsFilled, StopsAt}
use Rattle.wf_grid.specs.Spanned.{AreFilledTo, IsLevelLong}
use Rattle.wf_grid.proofs.Filling.{spot_is, filled_more, stops}
use Rattle.wf_grid.proofs.Lists.{place_below}
use Rattle.wf_grid.proofs.RowPlaces.{in_row, next_row, next_plane, all_planes, first_row}

-- each row has a point
pub has_columns : (plan : Plan) (d f : ℕ) (lists : List (List ℤ)) → AreLists plan d lists → 1 ≤ nx plan d f
has_columns plan d f lists h = omega (arith, h.wide)

-- the length of a level, in the extents that the code computes
pub long_is : (plan : Plan) (d f n : ℕ) (e : Extents) → AreExtents plan d f e → IsLevelLong plan d f n → n ≡ e.levels * (e.rows * e.columns)
long_is plan d f n e x h = h ∙ (λ i. sym x.levels i * (sym x.rows i * sym x.columns i))

-- the place of the first point of a row, in these extents
pub start_is : (plan : Plan) (d f k j s : ℕ) (e : Extents) → AreExtents plan d f e → s ≡ place_in e.rows e.columns k j 1 → s ≡ place_in (ny plan d f) (nx plan d f) k j 1
start_is plan d f k j s e x h = h ∙ (λ i. place_in (x.rows i) (x.columns i) k j 1)

module _ (plan : Plan) (d f k j x : ℕ) (in_z : (1 ≤ k) × (k ≤ nz plan f)) (in_y : (1 ≤ j) × (j ≤ ny plan d f)) (h : x < nx plan d f) where
  -- a point of the row lies in the level
  pub row_point : IsPlaceIn (nz plan f) (ny plan d f) (nx plan d f) k j (x + 1)
  row_point = record { in_z = in_z; in_y = in_y; in_x = (omega arith, omega (arith, h)) }

  -- and its place in the list
  pub row_place : place_in (ny plan d f) (nx plan d f) k j 1 + x < nz plan f * (ny plan d f * nx plan d f)
  row_place = subst (λ (p : ℕ). p < nz plan f * (ny plan d f * nx plan d f)) (sym (in_row (ny plan d f) (nx plan d f) k j x)) (place_below (nz plan f) (ny plan d f) (nx plan d f) k j (x + 1) row_point)

  -- which is the point at that place
  pub row_spot : spot_at plan d f (place_in (ny plan d f) (nx plan d f) k j 1 + x) ≡ record { field = f; k = k; j = j; i = x + 1 }
  row_spot = spot_is plan d f k j (x + 1) (place_in (ny plan d f) (nx plan d f) k j 1 + x) row_point (sym (in_row (ny plan d f) (nx plan d f) k j x))

module _ (plan : Plan) (m : Answers) (d : ℕ) (lists : List (List ℤ)) (step : ℕ) (ph : Phase) (k j x : ℕ) (numbers : List ℤ)
    (in_z : (1 ≤ k) × (k ≤ nz plan ph.writes)) (in_y : (1 ≤ j) × (j ≤ ny plan d ph.writes)) (h : x < nx plan d ph.writes)
    (filled : IsFilled plan m d lists step ph (place_in (ny plan d ph.writes) (nx plan d ph.writes) k j 1 + x) numbers) where
  -- its number is set
  pub row_more : (s : ℕ) (v : ℤ) → s ≡ place_in (ny plan d ph.writes) (nx plan d ph.writes) k j 1 → IsLevelLong plan d ph.writes (length numbers) →
      phase_number plan m d lists step ph (record { field = ph.writes; k = k; j = j; i = x + 1 }) ≡ Some v →
      IsFilled plan m d lists step ph (place_in (ny plan d ph.writes) (nx plan d ph.writes) k j 1 + (x + 1)) (set numbers (s + x) v)
  row_more s v es size is =
      let below : place_in (ny plan d ph.writes) (nx plan d ph.writes) k j 1 + x < length numbers = omega (arith, size, row_place plan d ph.writes k j x in_z in_y h) in
      let next : place_in (ny plan d ph.writes) (nx plan d ph.writes) k j 1 + x + 1 ≡ place_in (ny plan d ph.writes) (nx plan d ph.writes) k j 1 + (x + 1) = behind (place_in (ny plan d ph.writes) (nx plan d ph.writes) k j 1) in
      subst (λ (n : ℕ). IsFilled plan m d lists step ph n (set numbers (s + x) v)) next
      (subst (λ (n : ℕ). IsFilled plan m d lists step ph (place_in (ny plan d ph.writes) (nx plan d ph.writes) k j 1 + x + 1) (set numbers (n + x) v)) (sym es)
      (filled_more plan m d lists step ph (place_in (ny plan d ph.writes) (nx plan d ph.writes) k j 1 + x) numbers filled v _ below (row_spot plan d ph.writes k j x in_z in_y h) is))
    where
      behind : (p : ℕ) → p + x + 1 ≡ p + (x + 1)
      behind p = omega arith

  -- or it has none
  pub row_stops : phase_number plan m d lists step ph (record { field = ph.writes; k = k; j = j; i = x + 1 }) ≡ None → StopsAt plan m d lists step ph (record { field = ph.writes; k = k; j = j; i = x + 1 })
  row_stops none =
      stops plan m d lists step ph (place_in (ny plan d ph.writes) (nx plan d ph.writes) k j 1 + x) numbers filled _
      (row_place plan d ph.writes k j x in_z in_y h) (row_spot plan d ph.writes k j x in_z in_y h) none

module _ (plan : Plan) (m : Answers) (d : ℕ) (lists : List (List ℤ)) (step : ℕ) (ph : Phase) (numbers : List ℤ) where
  -- nothing of a row
  pub row_begins : (k j : ℕ) → AreFilledTo plan m d lists step ph k j numbers → IsFilled plan m d lists step ph (place_in (ny plan d ph.writes) (nx plan d ph.writes) k j 1 + 0) numbers
  row_begins k j h = subst (λ (n : ℕ). IsFilled plan m d lists step ph n numbers) (omega arith) h

  -- a whole row
  pub row_ends : (k j n : ℕ) → 1 ≤ j → n ≡ nx plan d ph.writes → IsFilled plan m d lists step ph (place_in (ny plan d ph.writes) (nx plan d ph.writes) k j 1 + n) numbers → AreFilledTo plan m d lists step ph k (j + 1) numbers
  row_ends k j n low e h =
      subst (λ (q : ℕ). IsFilled plan m d lists step ph q numbers)
      ((λ i. place_in (ny plan d ph.writes) (nx plan d ph.writes) k j 1 + e i) ∙ next_row (ny plan d ph.writes) (nx plan d ph.writes) k j low) h

  -- a whole level in z
  pub plane_ends : (k n : ℕ) → 1 ≤ k → n ≡ ny plan d ph.writes → AreFilledTo plan m d lists step ph k (n + 1) numbers → AreFilledTo plan m d lists step ph (k + 1) 1 numbers
  plane_ends k n low e h =
      subst (λ (q : ℕ). IsFilled plan m d lists step ph q numbers)
      ((λ i. place_in (ny plan d ph.writes) (nx plan d ph.writes) k (e i + 1) 1) ∙ next_plane (ny plan d ph.writes) (nx plan d ph.writes) k low) h

  -- the whole list
  pub level_ends : (n : ℕ) → n ≡ nz plan ph.writes → IsLevelLong plan d ph.writes (length numbers) → AreFilledTo plan m d lists step ph (n + 1) 1 numbers → IsFilled plan m d lists step ph (length numbers) numbers
  level_ends n e size h =
      subst (λ (q : ℕ). IsFilled plan m d lists step ph q numbers)
      ((λ i. place_in (ny plan d ph.writes) (nx plan d ph.writes) (e i + 1) 1 1) ∙ all_planes (nz plan ph.writes) (ny plan d ph.writes) (nx plan d ph.writes) ∙ sym size) h

  -- nothing of the list
  pub level_begins : AreFilledTo plan m d lists step ph 1 1 numbers
  level_begins q l = absurd (none (first_row (ny plan d ph.writes) (nx plan d ph.writes)) l)
    where
      none : {n : ℕ} → n ≡ 0 → q < n → ⊥
      none e l = omega (arith, e, l)
