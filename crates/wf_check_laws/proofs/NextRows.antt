-- From one row to the next that repeats none.
use Rattle.std.proofs.Common.{◌≡◌, ⊎_elim, inl, inr, ℕ, ◌+◌, ◌-◌, ◌<◌, ◌≤◌, Bool, true, false, refl, sym, ap, ◌∙◌, arith}
use Rattle.std.specs.Prelude.{◌&&◌, ◌||◌, nat_lt, fold, if◌then◌else◌}
use Rattle.std.specs.List.{list_all}
use Rattle.wf_model.specs.declared.plan.Plan.{Plan}
use Rattle.wf_model.specs.declared.plan.Item.{Item}
use Rattle.wf_model.specs.declared.plan.Item.TheVariants as item
use Rattle.wf_model.specs.Plans.{domain_of, ny}
use Rattle.wf_model.specs.Covered.{Asked}
use Rattle.wf_laws.proofs.Bools.{and_left, and_right, and_both, and_false, or_left, or_right, or_else, split_bool, differ, less_of, less_test}
use Rattle.wf_laws.proofs.Members.{In-list_all, list_all-In}
use Rattle.wf_check_laws.specs.Repeats.{is_away, look_y, is_away_y, repeats_y, before_near, before_item_y, before_end, next_y, IsNextRow}
use Rattle.wf_check_laws.proofs.Nearest.{IsBefore, near_before, end_before, fold_before}

-- the first of two tests fails
first_fails : (a b : Bool) → a ≡ false → (a && b) ≡ false
first_fails a b h = λ n. h n && b

-- the step of an item
item_before : (plan : Plan) (d m x n : ℕ) (it : Item) → IsBefore x n (before_item_y plan d m x n it) (λ z. is_away_y plan d m z it)
item_before plan d m x n (item.Halo parts) = record { most = λ h. omega arith; from = λ h. h; away = λ z l u. (u, refl); near = inl refl }
item_before plan d m x n (item.Period parts) = record { most = λ h. omega arith; from = λ h. h; away = λ z l u. (u, refl); near = inl refl }
item_before plan d m x n (item.Swap one two) = record { most = λ h. omega arith; from = λ h. h; away = λ z l u. (u, refl); near = inl refl }
item_before plan d m x n (item.Phase ph) =
    let one = near_before m x ph.my n in
    let two = near_before m x (ny plan d ph.writes - ph.my) (before_near m x ph.my n) in
    record {
      most = λ h. omega (arith, one.most h, two.most (one.from h));
      from = λ h. two.from (one.from h);
      away = λ z l u. let t = two.away z l u in let s = one.away z l t.0 in (s.0, and_both _ _ s.1 t.1);
      near =
          ⊎_elim
          (λ e. ⊎_elim (λ q. inl (e ∙ q)) (λ q. inr (first_fails _ _ (ap (λ (k : ℕ). is_away m k ph.my) e ∙ q))) one.near)
          (λ q. inr (and_false _ _ q))
          two.near;
    }

-- from one number on
module _ (plan : Plan) (a : Asked) (x : ℕ) where
  -- the first row near the end
  abbrev far : ℕ
  far = before_end (look_y a) x ((domain_of plan a.domain).jde - 1)

  -- the next one, by the tests that it makes
  record IsFound (n : ℕ) : Type 0 where
    between : (z : ℕ) → x ≤ z → z < n → repeats_y plan a z ≡ true
    stops : repeats_y plan a n ≡ false
    from : x ≤ n
    below : x < (domain_of plan a.domain).jde - 1 → n < (domain_of plan a.domain).jde - 1

  -- a row before the end and away from all ends of regions repeats
  repeats : (z : ℕ) → look_y a < x → x ≤ z → z < far → ((domain_of plan a.domain).periodic_y || list_all (is_away_y plan a.domain (look_y a) z) plan.items) ≡ true → repeats_y plan a z ≡ true
  unfolding repeats_y
  repeats z s l u h =
      let e = end_before (look_y a) x ((domain_of plan a.domain).jde - 1) z l u in
      and_both _ _ (less_test (look_y a) z (omega arith)) (and_both _ _ (less_test (z + look_y a) ((domain_of plan a.domain).jde - 1) e.0)
      (and_both _ _ (less_test (z + 1) ((domain_of plan a.domain).jde - 1) e.1) h))

  -- the end is not before x, and is one of the domain's
  far_from : x ≤ far
  far_from = omega arith

  far_below : x < (domain_of plan a.domain).jde - 1 → far < (domain_of plan a.domain).jde - 1
  far_below h = omega arith

  -- one that repeats passes each test
  passes : (z : ℕ) → repeats_y plan a z ≡ true → (nat_lt (look_y a) z ≡ true) × (z + look_y a < (domain_of plan a.domain).jde - 1) × (z + 1 < (domain_of plan a.domain).jde - 1)
      × (((domain_of plan a.domain).periodic_y || list_all (is_away_y plan a.domain (look_y a) z) plan.items) ≡ true)
  unfolding repeats_y
  passes z h =
      let b = and_right (nat_lt (look_y a) z) _ h in
      let c = and_right (nat_lt (z + look_y a) ((domain_of plan a.domain).jde - 1)) _ b in (
        and_left (nat_lt (look_y a) z) _ h,
        less_of (z + look_y a) ((domain_of plan a.domain).jde - 1) (and_left (nat_lt (z + look_y a) ((domain_of plan a.domain).jde - 1)) _ b),
        less_of (z + 1) ((domain_of plan a.domain).jde - 1) (and_left (nat_lt (z + 1) ((domain_of plan a.domain).jde - 1)) _ c),
        and_right (nat_lt (z + 1) ((domain_of plan a.domain).jde - 1)) _ c,
      )

  -- what does not pass them all does not repeat
  stops_by : (z : ℕ) → (repeats_y plan a z ≡ true → ⊥) → repeats_y plan a z ≡ false
  stops_by z h = ⊎_elim (λ t. absurd (h t)) (λ t. t) (split_bool (repeats_y plan a z))

  -- the end
  far_stops : (z : ℕ) → z ≡ far → repeats_y plan a z ≡ false
  far_stops z e = stops_by z (λ t. let p = passes z t in too_far (look_y a) x ((domain_of plan a.domain).jde - 1) z e p.1 p.2)
    where
      too_far : (m x n z : ℕ) → z ≡ before_end m x n → z + m < n → z + 1 < n → ⊥
      too_far m x n z e l u = omega arith

  -- in a periodic direction
  found_round : look_y a < x → (domain_of plan a.domain).periodic_y ≡ true → IsFound far
  found_round s p = record { between = λ z l u. repeats z s l u (or_left _ _ p); stops = far_stops far refl; from = far_from; below = far_below }

  -- in another one
  found_straight : look_y a < x → (domain_of plan a.domain).periodic_y ≡ false → IsFound (fold (before_item_y plan a.domain (look_y a) x) far plan.items)
  found_straight s straight =
      let b = fold_before x (before_item_y plan a.domain (look_y a) x) (λ it z. is_away_y plan a.domain (look_y a) z it) (item_before plan a.domain (look_y a) x) plan.items far in
      record {
        between = λ z l u. let r = b.away z l u in repeats z s l r.0 (or_right (domain_of plan a.domain).periodic_y _ (list_all-In (is_away_y plan a.domain (look_y a) z) plan.items r.1));
        stops =
            ⊎_elim (far_stops (fold (before_item_y plan a.domain (look_y a) x) far plan.items))
            (λ q. stops_by (fold (before_item_y plan a.domain (look_y a) x) far plan.items)
            (λ t. differ (sym (In-list_all (is_away_y plan a.domain (look_y a) (fold (before_item_y plan a.domain (look_y a) x) far plan.items)) q.0 plan.items (or_else _ _ straight (passes _ t).3) q.1) ∙ q.2)))
            b.near;
        from = b.from far_from;
        below = λ h. omega (arith, b.most far_from, far_below h);
      }

  -- near the start
  found_here : nat_lt (look_y a) x ≡ false → IsFound x
  found_here h = record { between = λ z l u. absurd (omega arith); stops = stops_by x (λ t. differ (sym (passes x t).0 ∙ h)); from = omega arith; below = λ h. h }

  -- the choice
  chosen : (periodic start : Bool) → (domain_of plan a.domain).periodic_y ≡ periodic → nat_lt (look_y a) x ≡ start →
      IsFound (if start then (if periodic then far else fold (before_item_y plan a.domain (look_y a) x) far plan.items) else x)
  chosen periodic false p s = found_here s
  chosen true true p s = found_round (less_of (look_y a) x s) p
  chosen false true p s = found_straight (less_of (look_y a) x s) p

  -- the next row
  pub next_found : IsNextRow plan a x
  unfolding next_y
  next_found =
      let f = chosen (domain_of plan a.domain).periodic_y (nat_lt (look_y a) x) refl refl in
      record { between = f.between; stops = f.stops; from = f.from; below = f.below }
