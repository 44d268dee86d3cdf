-- What one item leaves: nothing is done, two levels are exchanged, or a phase is done.
use Rattle.std.proofs.Common.{◌≡◌, ◌⊎◌, inl, inr, ◌≢◌, ℕ, ◌*◌, ◌<◌, Bool, true, false, List, [], ◌∷◌, length, get_or, set, refl, sym, ap, subst, ◌∙◌, arith, Some, None, length-set, get_or-set_other, get_or-set_same}
use Rattle.std.specs.Prelude.{ℤ, pos, Option, option_map, is_none, ◌==◌, ◌||◌, ◌&&◌, if◌then◌else◌}
use Rattle.std.specs.List.{swap}
use Rattle.wf_model.specs.declared.plan.Plan.{Plan}
use Rattle.wf_model.specs.declared.plan.Phase.{Phase}
use Rattle.wf_model.specs.declared.plan.HaloPart.{HaloPart}
use Rattle.wf_model.specs.declared.plan.PeriodPart.{PeriodPart}
use Rattle.wf_model.specs.declared.plan.Item.{Item}
use Rattle.wf_model.specs.declared.plan.Item.TheVariants as item
use Rattle.wf_model.specs.declared.point.Point.{Point}
use Rattle.wf_model.specs.declared.point.What.TheVariants as what
use Rattle.wf_model.specs.declared.script.Act.TheVariants.{Table}
use Rattle.wf_model.specs.Plans.{item_of, nx, ny, nz}
use Rattle.wf_model.specs.Value.{Answers}
use Rattle.wf_model.specs.Changes.{Change, Spot, nothing, changed, spots, overflows_at, overflow_in, table_change, phase_change, swap_change}
use Rattle.wf_model.specs.Script.{entry}
use Rattle.wf_model.specs.Sound.{IsLevel}
use Rattle.wf_model.specs.Outcome.{point_of, no_list}
use Rattle.std.proofs.lemmas.List.{get_or_default}
use Rattle.wf_laws.proofs.Bools.{same_number}
use Rattle.wf_laws.proofs.Entries.{nothing_changes}
use Rattle.wf_grid.specs.declared.extents.Here.{Here}
use Rattle.wf_grid.specs.Levels.{place_in, grids_of, lists_of, AreLists, number_after}
use Rattle.wf_grid.specs.Filled.{spot_of}
use Rattle.wf_grid.specs.Stepped.{Left, item_change, lists_after, left_by_item}
use Rattle.wf_grid.specs.Takeable.{IsPair}
use Rattle.wf_grid.proofs.Finding.{find-none}
use Rattle.wf_grid.proofs.Lists.{lists_are, number_in}
use Rattle.wf_grid.proofs.PhaseResult.{changed_is, unchanged, not_equal}

-- the lists are those of their grids
pub lists_same : (plan : Plan) (d : ℕ) (lists : List (List ℤ)) → AreLists plan d lists → lists ≡ lists_of plan d (grids_of plan d lists)
lists_same plan d lists are = lists_are plan d lists (grids_of plan d lists) are.levels are.each (λ f k j i h inside. number_in plan d lists f k j i)

-- a point of nowhere
no_spot : Spot
no_spot = record { field = 0; k = 0; j = 0; i = 0 }

-- nothing overflows nowhere
pub nothing_over : (plan : Plan) → overflow_in plan nothing ≡ None
unfolding nothing
nothing_over plan = find-none (overflows_at nothing) no_spot (spots plan 0) (λ q l. refl)

-- what an item leaves, by what it sets
left_by : Plan → ℕ → ℕ → ℕ → List (List ℤ) → Change → Left
left_by plan d step n lists c = record {
  point = option_map (point_of c (entry d step 0 (Table n))) (overflow_in plan c);
  lists = lists_after plan d c lists (option_map (point_of c (entry d step 0 (Table n))) (overflow_in plan c));
}

module _ (plan : Plan) (m : Answers) (d step n : ℕ) (lists : List (List ℤ)) where
  left_is : (c : Change) → item_change plan m d lists step n ≡ c → left_by_item plan m d step n lists ≡ left_by plan d step n lists c
  unfolding left_by_item left_by
  left_is c e = ap (left_by plan d step n lists) e

  -- an item that sets nothing
  none_left : left_by plan d step n lists nothing ≡ record { point = None; lists = lists_of plan d (changed nothing (grids_of plan d lists)) }
  unfolding left_by
  none_left =
      (λ i. record {
        point = option_map (point_of nothing (entry d step 0 (Table n))) (nothing_over plan i);
        lists = lists_after plan d nothing lists (option_map (point_of nothing (entry d step 0 (Table n))) (nothing_over plan i));
      })

  idle : AreLists plan d lists → item_change plan m d lists step n ≡ nothing → left_by_item plan m d step n lists ≡ record { point = None; lists = lists }
  idle are e =
      left_is nothing e ∙ none_left
      ∙ (λ i. record { point = None; lists = (ap (lists_of plan d) (sym (nothing_changes (grids_of plan d lists))) ∙ sym (lists_same plan d lists are)) i })

  pub halo_left : (parts : _) → AreLists plan d lists → item_of plan n ≡ item.Halo parts → left_by_item plan m d step n lists ≡ record { point = None; lists = lists }
  unfolding table_change
  halo_left parts are e = idle are (ap (table_change plan m (grids_of plan d lists) d step) e)

  pub period_left : (parts : _) → AreLists plan d lists → item_of plan n ≡ item.Period parts → left_by_item plan m d step n lists ≡ record { point = None; lists = lists }
  unfolding table_change
  period_left parts are e = idle are (ap (table_change plan m (grids_of plan d lists) d step) e)

  -- an exchange between patches
  pub idle_left : (it : Item) → AreLists plan d lists → item_of plan n ≡ it → ◌⊎◌ ((x : List HaloPart) × (it ≡ item.Halo x)) ((x : List PeriodPart) × (it ≡ item.Period x)) →
      left_by_item plan m d step n lists ≡ record { point = None; lists = lists }
  idle_left it are e (inl h) = halo_left h.0 are (e ∙ h.1)
  idle_left it are e (inr h) = period_left h.0 are (e ∙ h.1)

  -- a phase
  phase_is : (ph : Phase) → item_of plan n ≡ item.Phase ph → item_change plan m d lists step n ≡ phase_change plan m (grids_of plan d lists) d step ph
  unfolding table_change
  phase_is ph e = ap (table_change plan m (grids_of plan d lists) d step) e

  -- the point that is named
  point_is : (ph : Phase) (r : Option Here) (over : Option Spot) → option_map (spot_of ph.writes) r ≡ over →
      option_map (λ (h : Here). record { domain = d; step = step; what = what.Phase n; field = ph.writes; k = h.k; j = h.j; i = h.i }) r
      ≡ option_map (point_of (phase_change plan m (grids_of plan d lists) d step ph) (entry d step 0 (Table n))) over
  point_is ph None over e = (λ i. option_map (point_of (phase_change plan m (grids_of plan d lists) d step ph) (entry d step 0 (Table n))) (e i))
  point_is ph (Some h) over e = (λ i. option_map (point_of (phase_change plan m (grids_of plan d lists) d step ph) (entry d step 0 (Table n))) (e i))

  -- the lists by what is named
  lists_is : (c : Change) (r : Option Here) (p : Option Point) (F : Here → Point) → p ≡ option_map F r → (if is_none r then lists_of plan d (changed c (grids_of plan d lists)) else lists) ≡ lists_after plan d c lists p
  lists_is c None p F e = (λ i. lists_after plan d c lists (sym e i))
  lists_is c (Some h) p F e = (λ i. lists_after plan d c lists (sym e i))

  module _ (ph : Phase) (is : item_of plan n ≡ item.Phase ph) (r : Option Here) (over : option_map (spot_of ph.writes) r ≡ overflow_in plan (phase_change plan m (grids_of plan d lists) d step ph)) where
    abbrev named : Here → Point
    named h = record { domain = d; step = step; what = what.Phase n; field = ph.writes; k = h.k; j = h.j; i = h.i }

    pub phase_point : option_map (λ (h : Here). record { domain = d; step = step; what = what.Phase n; field = ph.writes; k = h.k; j = h.j; i = h.i }) r ≡ (left_by_item plan m d step n lists).point
    unfolding left_by
    phase_point = point_is ph r (overflow_in plan (phase_change plan m (grids_of plan d lists) d step ph)) over ∙ ap (λ (l : Left). l.point) (sym (left_is (phase_change plan m (grids_of plan d lists) d step ph) (phase_is ph is)))

    pub phase_lists : (after : List (List ℤ)) → after ≡ (if is_none r then lists_of plan d (changed (phase_change plan m (grids_of plan d lists) d step ph) (grids_of plan d lists)) else lists) → after ≡ (left_by_item plan m d step n lists).lists
    unfolding left_by
    phase_lists after e =
        e ∙ lists_is (phase_change plan m (grids_of plan d lists) d step ph) r (option_map (point_of (phase_change plan m (grids_of plan d lists) d step ph) (entry d step 0 (Table n))) (overflow_in plan (phase_change plan m (grids_of plan d lists) d step ph))) named
        (sym (point_is ph r (overflow_in plan (phase_change plan m (grids_of plan d lists) d step ph)) over))
        ∙ ap (λ (l : Left). l.lists) (sym (left_is (phase_change plan m (grids_of plan d lists) d step ph) (phase_is ph is)))

-- two levels exchanged
module _ (plan : Plan) (m : Answers) (d step n one two : ℕ) (lists : List (List ℤ)) (are : AreLists plan d lists) (pair : IsPair plan d one two) where
  abbrev exchange : Change
  exchange = swap_change (grids_of plan d lists) d one two

  swap_is : item_of plan n ≡ item.Swap one two → item_change plan m d lists step n ≡ swap_change (grids_of plan d lists) d one two
  unfolding table_change
  swap_is e = ap (table_change plan m (grids_of plan d lists) d step) e

  -- each point that it sets has a number
  never : (b : Bool) → (b && false) ≡ false
  never true = refl
  never false = refl

  swap_over : overflow_in plan exchange ≡ None
  swap_over = find-none (overflows_at exchange) no_spot (spots plan d)
      (λ q l. never ((◌==◌ (get_or (spots plan d) q no_spot).field one) || (◌==◌ (get_or (spots plan d) q no_spot).field two)))

  swap_left : left_by plan d step n lists exchange ≡ record { point = None; lists = lists_of plan d (changed exchange (grids_of plan d lists)) }
  unfolding left_by
  swap_left =
      (λ i. record {
        point = option_map (point_of exchange (entry d step 0 (Table n))) (swap_over i);
        lists = lists_after plan d exchange lists (option_map (point_of exchange (entry d step 0 (Table n))) (swap_over i));
      })

  -- the list of a level after it
  pub record AreExchanged (after : List (List ℤ)) : Type 0 where
    pub length_is : length after ≡ length lists
    pub first : get_or after one no_list ≡ get_or lists two no_list
    pub second : get_or after two no_list ≡ get_or lists one no_list
    pub others : (f : ℕ) → (f ≡ one → ⊥) → (f ≡ two → ⊥) → get_or after f no_list ≡ get_or lists f no_list

  -- the number of a point of either level after it, and of any other
  first_number : (k j i : ℕ) → number_after exchange (grids_of plan d lists) (record { field = one; k = k; j = j; i = i }) ≡ Some (grids_of plan d lists d two k j i)
  first_number k j i =
      (λ t. if (same_number one t || (one == two)) then Some (grids_of plan d lists d (if same_number one t then two else one) k j i) else Some (grids_of plan d lists d one k j i))

  second_number : (k j i : ℕ) → number_after exchange (grids_of plan d lists) (record { field = two; k = k; j = j; i = i }) ≡ Some (grids_of plan d lists d one k j i)
  second_number k j i =
      let no : (two == one) ≡ false = not_equal two one (λ e. pair.other (sym e)) in
      (λ t. if (no t || same_number two t) then Some (grids_of plan d lists d (if no t then two else one) k j i) else Some (grids_of plan d lists d two k j i))

  module _ (after : List (List ℤ)) (ex : AreExchanged after) where
    equal : (a b : ℕ) → (a == b) ≡ true → a ≡ b
    equal a b e = grind arith

    differ : (a b : ℕ) → (a == b) ≡ false → a ≡ b → ⊥
    differ a b e q = grind arith

    -- a level's list has a number for each point
    abbrev IsLong : ℕ → Type 0
    IsLong f = length (get_or after f no_list) ≡ nz plan f * (ny plan d f * nx plan d f)

    -- and each point's number
    abbrev IsRight : ℕ → Type 0
    IsRight f = (k j i : ℕ) → get_or (get_or after f no_list) (place_in (ny plan d f) (nx plan d f) k j i) (pos 0) ≡ changed exchange (grids_of plan d lists) d f k j i

    first_long : IsLong one
    first_long = ap length ex.first ∙ are.each two pair.second ∙ (λ t. pair.levels t * (pair.rows t * pair.columns t))

    second_long : IsLong two
    second_long = ap length ex.second ∙ are.each one pair.first ∙ (λ t. sym pair.levels t * (sym pair.rows t * sym pair.columns t))

    first_right : IsRight one
    first_right k j i =
        (λ t. get_or (ex.first t) (place_in (sym pair.rows t) (sym pair.columns t) k j i) (pos 0)) ∙ number_in plan d lists two k j i
        ∙ sym (changed_is exchange (grids_of plan d lists) d one k j i (grids_of plan d lists d two k j i) refl (first_number k j i))

    second_right : IsRight two
    second_right k j i =
        (λ t. get_or (ex.second t) (place_in (pair.rows t) (pair.columns t) k j i) (pos 0)) ∙ number_in plan d lists one k j i
        ∙ sym (changed_is exchange (grids_of plan d lists) d two k j i (grids_of plan d lists d one k j i) refl (second_number k j i))

    other_right : (f : ℕ) → (f == one) ≡ false → (f == two) ≡ false → IsRight f
    other_right f p q k j i =
        ap (λ (l : List ℤ). get_or l (place_in (ny plan d f) (nx plan d f) k j i) (pos 0)) (ex.others f (differ f one p) (differ f two q)) ∙ number_in plan d lists f k j i
        ∙ sym (unchanged exchange (grids_of plan d lists) d f k j i (λ t. p t || q t))

    long : (f : ℕ) → IsLevel plan f → (b c : Bool) → (f == one) ≡ b → (f == two) ≡ c → IsLong f
    long f h true c p q = subst IsLong (sym (equal f one p)) first_long
    long f h false true p q = subst IsLong (sym (equal f two q)) second_long
    long f h false false p q = ap length (ex.others f (differ f one p) (differ f two q)) ∙ are.each f h

    right : (f : ℕ) → (b c : Bool) → (f == one) ≡ b → (f == two) ≡ c → IsRight f
    right f true c p q = subst IsRight (sym (equal f one p)) first_right
    right f false true p q = subst IsRight (sym (equal f two q)) second_right
    right f false false p q = other_right f p q

    pub exchanged : after ≡ lists_of plan d (changed exchange (grids_of plan d lists))
    exchanged =
        lists_are plan d after (changed exchange (grids_of plan d lists)) (ex.length_is ∙ are.levels) (λ f h. long f h (f == one) (f == two) refl refl)
        (λ f k j i h inside. right f (f == one) (f == two) refl refl k j i)

    pub swap_left_is : item_of plan n ≡ item.Swap one two → left_by_item plan m d step n lists ≡ record { point = None; lists = after }
    swap_left_is e = left_is plan m d step n lists exchange (swap_is e) ∙ swap_left ∙ (λ t. record { point = None; lists = sym exchanged t })

-- what the code's exchange gives
pub swap_exchanges : (plan : Plan) (m : Answers) (d step n one two : ℕ) (lists : List (List ℤ)) (are : AreLists plan d lists) (pair : IsPair plan d one two) → AreExchanged plan m d step n one two lists are pair (swap lists one two)
swap_exchanges plan m d step n one two [] are pair = absurd (omega (arith, are.levels, pair.first))
swap_exchanges plan m d step n one two (x ∷ xs) are pair = record {
  length_is = length-set (set (x ∷ xs) one (get_or (x ∷ xs) two x)) two (get_or (x ∷ xs) one x) ∙ length-set (x ∷ xs) one (get_or (x ∷ xs) two x);
  first = let ne : one ≢ two = pair.other in let h : one < length (x ∷ xs) = in_one in rw (get_or-set_other, get_or-set_same) (get_or_default (x ∷ xs) two x no_list in_two);
  second = let h : two < length (set (x ∷ xs) one (get_or (x ∷ xs) two x)) = subst (λ (k : ℕ). two < k) (sym (length-set (x ∷ xs) one (get_or (x ∷ xs) two x))) in_two in rw get_or-set_same (get_or_default (x ∷ xs) one x no_list in_one);
  others = λ f p q. let ne : f ≢ two = q in let nf : f ≢ one = p in rw (get_or-set_other, get_or-set_other) refl;
}
  where
    in_one : one < length (x ∷ xs)
    in_one = omega (arith, are.levels, pair.first)

    in_two : two < length (x ∷ xs)
    in_two = omega (arith, are.levels, pair.second)
