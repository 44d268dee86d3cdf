-- Grids that agree on the points of a domain: what an item sets of them agrees too, and they have the same lists.
use Rattle.std.proofs.Common.{◌≡◌, ℕ, ◌+◌, ◌<◌, ◌≤◌, Bool, true, false, List, map, length, get_or, refl, sym, ap, subst, ◌∙◌, arith}
use Rattle.std.proofs.lemmas.List.FromFn.{length-map-range_with_len, get_or-map-range_with_len}
use Rattle.std.specs.Prelude.{ℤ, pos, ◌+ℤ◌, is_none, unwrap_or, find, ◌==◌, ◌&&◌, ◌||◌, if◌then◌else◌}
use Rattle.wf_model.specs.declared.plan.Plan.{Plan}
use Rattle.wf_model.specs.declared.plan.Phase.{Phase}
use Rattle.wf_model.specs.declared.plan.Item.{Item}
use Rattle.wf_model.specs.declared.plan.Item.TheVariants as item
use Rattle.wf_model.specs.Plans.{domain_of, nx, ny, nz, levels_of, level_at, point_x, point_y}
use Rattle.wf_model.specs.Patches.{in_span, is_place}
use Rattle.wf_model.specs.Reads.{Read, reads_of}
use Rattle.wf_model.specs.Value.{Answers, value_of}
use Rattle.wf_model.specs.Grids.{Grids, listed, grid_from, level_list}
use Rattle.wf_model.specs.Changes.{Change, Spot, nothing, changed, spots, overflows_at, overflow_in, in_region, sight_at, table_change, phase_change, swap_change}
use Rattle.wf_model.specs.Sound.{IsLevel}
use Rattle.wf_model.specs.Outcome.{no_list}
use Rattle.wf_laws.proofs.Bools.{and_left, and_right, equal_of}
use Rattle.wf_laws.proofs.Entries.{nothing_changes}
use Rattle.wf_laws.proofs.Places.{point-range}
use Rattle.wf_laws.proofs.ValueLaws.{depends_on_reads}
use Rattle.wf_grid.specs.Levels.{place_in, IsPlaceIn, grids_of, lists_of}
use Rattle.wf_grid.specs.Reading.{IsReadable, IsRunnable}
use Rattle.wf_grid.specs.Takeable.{IsPair, IsTakeable}
use Rattle.wf_grid.proofs.Cells.{cells, length-cells, get_or-cells, PointOf, point_of, same_list}

-- the same number at each point of a domain
pub record Agree (plan : Plan) (d : ℕ) (g h : Grids) : Type 0 where
  pub same : (f k j i : ℕ) → IsLevel plan f → IsPlaceIn (nz plan f) (ny plan d f) (nx plan d f) k j i → g d f k j i ≡ h d f k j i

-- one level's list
pub level_same : (zs ys xs : ℕ) (g h : ℕ → ℕ → ℕ → ℤ) → ((k j i : ℕ) → IsPlaceIn zs ys xs k j i → g k j i ≡ h k j i) → listed zs ys xs g ≡ listed zs ys xs h
unfolding listed cells
level_same zs ys xs g h same =
    same_list (cells g zs ys xs) (cells h zs ys xs) (pos 0) (length-cells g zs ys xs ∙ sym (length-cells h zs ys xs))
    (λ q p. let at : PointOf zs ys xs q = point_of zs ys xs q (subst (λ (n : ℕ). q < n) (length-cells g zs ys xs) p) in
    ap (λ (n : ℕ). get_or (cells g zs ys xs) n (pos 0)) (sym at.is) ∙ get_or-cells g zs ys xs (pos 0) at.k at.j at.i at.inside ∙ same at.k at.j at.i at.inside
    ∙ sym (get_or-cells h zs ys xs (pos 0) at.k at.j at.i at.inside) ∙ ap (λ (n : ℕ). get_or (cells h zs ys xs) n (pos 0)) at.is)

-- all lists of a domain
pub lists_agree : (plan : Plan) (d : ℕ) (g h : Grids) → Agree plan d g h → lists_of plan d g ≡ lists_of plan d h
unfolding lists_of
lists_agree plan d g h a =
    same_list (map (λ f. level_list plan d f g) (levels_of plan)) (map (λ f. level_list plan d f h) (levels_of plan)) no_list
    (length-map-range_with_len (λ f. level_list plan d f g) 0 (length plan.fields) ∙ sym (length-map-range_with_len (λ f. level_list plan d f h) 0 (length plan.fields)))
    (λ q p. let level : IsLevel plan q = subst (λ (n : ℕ). q < n) (length-map-range_with_len (λ f. level_list plan d f g) 0 (length plan.fields)) p in
    get_or-map-range_with_len (λ f. level_list plan d f g) 0 (length plan.fields) q q no_list level (omega arith)
    ∙ level_same (nz plan q) (ny plan d q) (nx plan d q) (g d q) (h d q) (λ k j i inside. a.same q k j i level inside)
    ∙ sym (get_or-map-range_with_len (λ f. level_list plan d f h) 0 (length plan.fields) q q no_list level (omega arith)))

-- the grids of the lists of grids agree with them
pub grids_back : (plan : Plan) (d : ℕ) (g : Grids) → Agree plan d (grids_of plan d (lists_of plan d g)) g
unfolding grids_of lists_of grid_from listed cells
grids_back plan d g = record {
  same = λ f k j i level inside.
      ap (λ (l : List ℤ). get_or l (place_in (ny plan d f) (nx plan d f) k j i) (pos 0)) (get_or-map-range_with_len (λ f. level_list plan d f g) 0 (length plan.fields) f f no_list level (omega arith))
      ∙ get_or-cells (g d f) (nz plan f) (ny plan d f) (nx plan d f) (pos 0) k j i inside;
}

module _ (plan : Plan) (m : Answers) (d step : ℕ) (g h : Grids) (agree : Agree plan d g h) (are : (f : ℕ) → IsLevel plan f → (1 ≤ nx plan d f) × (1 ≤ ny plan d f)) where
  -- what an item sets of either
  pub record SameEffect (c e : Change) : Type 0 where
    pub overflow : (p : Spot) → overflows_at c p ≡ overflows_at e p
    pub domain : c.domain ≡ e.domain
    pub grids : Agree plan d (changed c g) (changed e h)

  idle : SameEffect nothing nothing
  idle = record {
    overflow = λ p. refl;
    domain = refl;
    grids = record { same = λ f k j i level inside. (λ t. sym (nothing_changes g) t d f k j i) ∙ agree.same f k j i level inside ∙ (λ t. nothing_changes h t d f k j i) };
  }

  -- a read meets a point of the domain
  meets : (k j i : ℕ) (r : Read) → IsReadable plan d k j i r → IsPlaceIn (nz plan r.field) (ny plan d r.field) (nx plan d r.field) (level_at plan r.field k r.dk) (point_y plan d r.field (pos j +ℤ r.dj)) (point_x plan d r.field (pos i +ℤ r.di))
  unfolding is_place
  meets k j i r s = record {
    in_z = s.levels;
    in_y = point-range (domain_of plan d).periodic_y (ny plan d r.field) (pos j +ℤ r.dj) (are r.field s.level).1
        (and_left ((domain_of plan d).periodic_y || in_span (record { low = pos 1; high = pos (ny plan d r.field + 1) }) (pos j +ℤ r.dj)) _ s.inside);
    in_x = point-range (domain_of plan d).periodic_x (nx plan d r.field) (pos i +ℤ r.di) (are r.field s.level).0
        (and_right ((domain_of plan d).periodic_y || in_span (record { low = pos 1; high = pos (ny plan d r.field + 1) }) (pos j +ℤ r.dj)) _ s.inside);
  }

  module _ (ph : Phase) (run : IsRunnable plan d ph) where
    -- the value at a point of the region
    value_same : (k j i : ℕ) → in_region plan d ph k j i ≡ true → value_of m (sight_at plan g d step k j i) ph.expr ≡ value_of m (sight_at plan h d step k j i) ph.expr
    value_same k j i region =
        depends_on_reads m ph.expr (sight_at plan g d step k j i) (sight_at plan h d step k j i) (record {
          i = refl;
          j = refl;
          k = refl;
          step = refl;
          reads = λ n x l. let s = run.reads k j i region n x l in agree.same _ _ _ _ s.level (meets k j i (get_or (reads_of ph.expr) n x) s);
        })

    -- what is tested alone where a test before it holds
    both_tests : (a b : Bool) (x y : Bool) → (b ≡ true → x ≡ y) → ((a && b) && x) ≡ ((a && b) && y)
    both_tests a true x y e = (λ t. (a && true) && e refl t)
    both_tests true false x y e = refl
    both_tests false false x y e = refl

    choice : (e a b : Bool) (x y : ℤ) (u v : ℤ) → (b ≡ true → x ≡ y) → u ≡ v → (if (e && (a && b)) then x else u) ≡ (if (e && (a && b)) then y else v)
    choice true true true x y u v p q = p refl
    choice true true false x y u v p q = q
    choice true false b x y u v p q = q
    choice false a b x y u v p q = q

    phase_same : SameEffect (phase_change plan m g d step ph) (phase_change plan m h d step ph)
    unfolding changed
    phase_same = record {
      overflow = λ p. both_tests (p.field == ph.writes) (in_region plan d ph p.k p.j p.i) (is_none (value_of m (sight_at plan g d step p.k p.j p.i) ph.expr)) (is_none (value_of m (sight_at plan h d step p.k p.j p.i) ph.expr))
          (λ r. ap is_none (value_same p.k p.j p.i r));
      domain = refl;
      grids = record {
        same = λ f k j i level inside. choice (d == d) (f == ph.writes) (in_region plan d ph k j i) (unwrap_or (value_of m (sight_at plan g d step k j i) ph.expr) (pos 0)) (unwrap_or (value_of m (sight_at plan h d step k j i) ph.expr) (pos 0)) (g d f k j i) (h d f k j i)
            (λ r. ap (λ o. unwrap_or o (pos 0)) (value_same k j i r)) (agree.same f k j i level inside);
      };
    }

  module _ (one two : ℕ) (pair : IsPair plan d one two) where
    -- the number that a point of a level gets
    exchanged_same : (f k j i : ℕ) → IsLevel plan f → IsPlaceIn (nz plan f) (ny plan d f) (nx plan d f) k j i → (b c : Bool) → (f == one) ≡ b → (f == two) ≡ c →
        (if ((d == d) && (b || c)) then g d (if b then two else one) k j i else g d f k j i) ≡ (if ((d == d) && (b || c)) then h d (if b then two else one) k j i else h d f k j i)
    exchanged_same f k j i level inside b c p q = by b c p q (d == d)
      where
        other : (f == one) ≡ true → g d two k j i ≡ h d two k j i
        other e =
            let is : f ≡ one = equal_of f one e in
            agree.same two k j i pair.second (subst (λ (w : ℕ). IsPlaceIn w (ny plan d two) (nx plan d two) k j i) (ap (nz plan) is ∙ sym pair.levels)
            (subst (λ (w : ℕ). IsPlaceIn (nz plan f) w (nx plan d two) k j i) (ap (ny plan d) is ∙ sym pair.rows)
            (subst (λ (w : ℕ). IsPlaceIn (nz plan f) (ny plan d f) w k j i) (ap (nx plan d) is ∙ sym pair.columns) inside)))

        back : (f == two) ≡ true → g d one k j i ≡ h d one k j i
        back e =
            let is : f ≡ two = equal_of f two e in
            agree.same one k j i pair.first (subst (λ (w : ℕ). IsPlaceIn w (ny plan d one) (nx plan d one) k j i) (ap (nz plan) is ∙ pair.levels)
            (subst (λ (w : ℕ). IsPlaceIn (nz plan f) w (nx plan d one) k j i) (ap (ny plan d) is ∙ pair.rows)
            (subst (λ (w : ℕ). IsPlaceIn (nz plan f) (ny plan d f) w k j i) (ap (nx plan d) is ∙ pair.columns) inside)))

        by : (b c : Bool) → (f == one) ≡ b → (f == two) ≡ c → (e : Bool) → (if (e && (b || c)) then g d (if b then two else one) k j i else g d f k j i) ≡ (if (e && (b || c)) then h d (if b then two else one) k j i else h d f k j i)
        by true c p q true = other p
        by true c p q false = agree.same f k j i level inside
        by false true p q true = back q
        by false true p q false = agree.same f k j i level inside
        by false false p q true = agree.same f k j i level inside
        by false false p q false = agree.same f k j i level inside

    -- neither has a point without a number
    no_test : (b : Bool) → (b && false) ≡ (b && false)
    no_test b = refl

    swap_same : SameEffect (swap_change g d one two) (swap_change h d one two)
    unfolding changed
    swap_same = record {
      overflow = λ p. refl;
      domain = refl;
      grids = record { same = λ f k j i level inside. exchanged_same f k j i level inside (f == one) (f == two) refl refl };
    }

  -- an item of the table
  pub item_same : (it : Item) → IsTakeable plan d it → SameEffect (table_change plan m g d step it) (table_change plan m h d step it)
  unfolding table_change
  item_same (item.Halo parts) t = idle
  item_same (item.Period parts) t = idle
  item_same (item.Swap one two) t = swap_same one two t
  item_same (item.Phase ph) t = phase_same ph t

  -- so the first overflow is one
  pub overflow_same : (it : Item) → IsTakeable plan d it → overflow_in plan (table_change plan m g d step it) ≡ overflow_in plan (table_change plan m h d step it)
  overflow_same it t = let s = item_same it t in (λ n. find (λ p. s.overflow p n) (spots plan (s.domain n)))
