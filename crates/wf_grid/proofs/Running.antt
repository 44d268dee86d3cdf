-- A run of one domain by the definitions, entry by entry, and what the steps leave of its lists.
use Rattle.std.proofs.Common.{◌≡◌, ℕ, zero, suc, ◌+◌, ◌-◌, ◌<◌, ◌≤◌, List, [], ◌∷◌, ◌++◌, map, take, length, refl, sym, ap, ◌∙◌, arith, Option, Some, None, Result, Ok, Err}
use Rattle.std.specs.Prelude.{ℤ, fold, option_map}
use Rattle.std.specs.List.{range_with_len}
use Rattle.wf_model.specs.declared.point.Point.{Point}
use Rattle.wf_model.specs.declared.point.What.TheVariants as what
use Rattle.wf_model.specs.declared.script.Act.TheVariants.{Table, Emit}
use Rattle.wf_model.specs.declared.script.Entry.{Entry}
use Rattle.wf_model.specs.Plans.{item_of, nx, ny}
use Rattle.wf_model.specs.Grids.{Grids}
use Rattle.wf_model.specs.Changes.{Change, Spot, nothing, changed, overflow_in, table_change}
use Rattle.wf_model.specs.Script.{entry}
use Rattle.wf_model.specs.Sound.{IsLevel}
use Rattle.wf_model.specs.Outcome.{RunData, Overflow, script, begin_grids, change_of, grids_after, grids_at, overflow_of, point_of, or_go_on, outcome_from, outcome_of}
use Rattle.wf_laws.proofs.Entries.{nothing_changes}
use Rattle.wf_grid.specs.Levels.{grids_of, lists_of, AreLists}
use Rattle.wf_grid.specs.Stepped.{Left, and_on, left_by, left_by_item, lists_after}
use Rattle.wf_grid.specs.Takeable.{IsTakeable, IsTable}
use Rattle.wf_grid.specs.Held.{point_at_end, grids_at_end}
use Rattle.wf_grid.proofs.Agreeing.{Agree, grids_back, lists_agree, item_same, overflow_same}
use Rattle.wf_grid.proofs.Items.{nothing_over}

-- the point that overflowed, if one did, and the grids then
pub record Ran : Type 0 where
  pub point : Option Point
  pub grids : Grids

-- on, where nothing overflowed
abbrev pub run_on : Option Point → Grids → Ran → Ran
run_on None g rest = rest
run_on (Some p) g rest = record { point = Some p; grids = g }

module _ (r : RunData) where
  -- entry by entry
  unfoldable pub run_from : List Entry → Grids → Ran
  run_from [] g = record { point = None; grids = g }
  run_from (e ∷ es) g = run_on (overflow_of r e g) g (run_from es (grids_after r g e))

  -- the grids at the end of entries from a place on
  abbrev pub ends_at : ℕ → List Entry → Grids → Result Grids Overflow → Grids
  ends_at k es g (Ok h) = h
  ends_at k es g (Err o) = fold (grids_after r) g (take (o.place - k) es)

  -- what an outcome tells
  abbrev pub told : ℕ → List Entry → Grids → Result Grids Overflow → Ran
  told k es g o = record { point = point_at_end o; grids = ends_at k es g o }

  -- an overflow stands at its place or behind it
  place_low : (k : ℕ) (es : List Entry) (g : Grids) (o : Overflow) → outcome_from r k es g ≡ Err o → k ≤ o.place
  unfolding outcome_from
  place_low k [] g o p = grind arith
  place_low k (e ∷ es) g o p =
      (elim (overflow_of r e g) as (λ x. or_go_on x k (outcome_from r (k + 1) es (grids_after r g e)) ≡ Err o → k ≤ o.place) [
        | None ↦ λ q. omega (arith, place_low (k + 1) es (grids_after r g e) o q)
        | Some x ↦ λ q. let is : k ≡ o.place = same_place q in omega (arith, is)
      ]) p
    where
      same_place : {x : Point} {o : Overflow} {k : ℕ} → ◌≡◌ {A = Result Grids Overflow} (Err (record { place = k; point = x })) (Err o) → k ≡ o.place
      same_place {x = x} {o = o} {k = k} q = let e : record { place = k; point = x } ≡ o = cc in ap (λ (y : Overflow). y.place) e

  -- one entry more before
  told_more : (k : ℕ) (e : Entry) (es : List Entry) (g : Grids) (o : Result Grids Overflow) → ((x : Overflow) → o ≡ Err x → k + 1 ≤ x.place) → told (k + 1) es (grids_after r g e) o ≡ told k (e ∷ es) g o
  told_more k e es g (Ok h) low = refl
  told_more k e es g (Err x) low =
      let is : x.place - k ≡ suc (x.place - (k + 1)) = later k x.place (low x refl) in
      (λ n. record { point = Some x.point; grids = fold (grids_after r) g (take (sym is n) (e ∷ es)) })
    where
      later : (a b : ℕ) → a + 1 ≤ b → b - a ≡ suc (b - (a + 1))
      later a b h = omega arith

  -- the run tells what the outcome tells
  ran_told : (k : ℕ) (es : List Entry) (g : Grids) → run_from es g ≡ told k es g (outcome_from r k es g)
  unfolding run_from outcome_from
  ran_told k [] g = refl
  ran_told k (e ∷ es) g =
      elim (overflow_of r e g) as (λ x. run_on x g (run_from es (grids_after r g e)) ≡ told k (e ∷ es) g (or_go_on x k (outcome_from r (k + 1) es (grids_after r g e)))) [
        | None ↦ ran_told (k + 1) es (grids_after r g e) ∙ told_more k e es g (outcome_from r (k + 1) es (grids_after r g e)) (λ x q. place_low (k + 1) es (grids_after r g e) x q)
        | Some p ↦ let z : k - k ≡ 0 = omega arith in (λ n. record { point = Some p; grids = fold (grids_after r) g (take (sym z n) (e ∷ es)) })
      ]

  -- of the whole script
  pub run_told : run_from (script r) (begin_grids r) ≡ record { point = point_at_end (outcome_of r); grids = grids_at_end r (outcome_of r) }
  unfolding outcome_of grids_at
  run_told = ran_told 0 (script r) (begin_grids r) ∙ whole (outcome_from r 0 (script r) (begin_grids r))
    where
      whole : (o : Result Grids Overflow) → told 0 (script r) (begin_grids r) o ≡ record { point = point_at_end o; grids = grids_at_end r o }
      whole (Ok h) = refl
      whole (Err x) = let z : x.place - 0 ≡ x.place = omega arith in (λ n. record { point = Some x.point; grids = fold (grids_after r) (begin_grids r) (take (z n) (script r)) })

  -- entries one behind another
  pub run-append : (es fs : List Entry) (g : Grids) → run_from (es ++ fs) g ≡ run_on (run_from es g).point (run_from es g).grids (run_from fs (run_from es g).grids)
  unfolding run_from
  run-append [] fs g = refl
  run-append (e ∷ es) fs g =
      elim (overflow_of r e g) as (λ x. run_on x g (run_from (es ++ fs) (grids_after r g e)) ≡ run_on (run_on x g (run_from es (grids_after r g e))).point (run_on x g (run_from es (grids_after r g e))).grids (run_from fs (run_on x g (run_from es (grids_after r g e))).grids)) [
        | None ↦ run-append es fs (grids_after r g e)
        | Some p ↦ refl
      ]

  -- entries that do nothing before others, and after them
  pub run-before : (es fs : List Entry) (g : Grids) → ((h : Grids) → run_from es h ≡ record { point = None; grids = h }) → run_from (es ++ fs) g ≡ run_from fs g
  run-before es fs g none = run-append es fs g ∙ (λ n. run_on (none g n).point (none g n).grids (run_from fs (none g n).grids))

  pub run-after : (es fs : List Entry) (g : Grids) → ((h : Grids) → run_from fs h ≡ record { point = None; grids = h }) → run_from (es ++ fs) g ≡ run_from es g
  run-after es fs g none =
      run-append es fs g ∙ (λ n. run_on (run_from es g).point (run_from es g).grids (none (run_from es g).grids n)) ∙ same (run_from es g)
    where
      same : (x : Ran) → run_on x.point x.grids (record { point = None; grids = x.grids }) ≡ x
      same x = by x.point x.grids
        where
          by : (p : Option Point) (g : Grids) → run_on p g (record { point = None; grids = g }) ≡ record { point = p; grids = g }
          by None g = refl
          by (Some p) g = refl

  -- frames do nothing
  pub frames-idle : (dom stp st : ℕ → ℕ) (t : ℕ) (ss : List ℕ) (g : Grids) → run_from (map (λ s. entry (dom s) (stp s) t (Emit (st s))) ss) g ≡ record { point = None; grids = g }
  unfolding run_from overflow_of grids_after change_of
  frames-idle dom stp st t [] g = refl
  frames-idle dom stp st t (s ∷ ss) g =
      (λ n. run_on (option_map (point_of nothing (entry (dom s) (stp s) t (Emit (st s)))) (nothing_over r.plan n)) g (run_from (map (λ s. entry (dom s) (stp s) t (Emit (st s))) ss) (sym (nothing_changes g) n)))
      ∙ frames-idle dom stp st t ss g

  module _ (are : (g : Grids) → AreLists r.plan 1 (lists_of r.plan 1 g)) (wide : (f : ℕ) → IsLevel r.plan f → (1 ≤ nx r.plan 1 f) × (1 ≤ ny r.plan 1 f)) (table : IsTable r.plan 1) where
    -- what is seen of a run in its lists
    abbrev pub seen : Ran → Left
    seen x = record { point = x.point; lists = lists_of r.plan 1 x.grids }

    -- the lists by whether a point overflowed
    abbrev pub lists_by : Option Point → List (List ℤ) → List (List ℤ) → List (List ℤ)
    lists_by None a b = a
    lists_by (Some p) a b = b

    -- one item
    pub item-seen : (step t n : ℕ) (g : Grids) → n < length r.plan.items → left_by_item r.plan r.answers 1 step n (lists_of r.plan 1 g)
        ≡ record { point = overflow_of r (entry 1 step t (Table n)) g; lists = lists_by (overflow_of r (entry 1 step t (Table n)) g) (lists_of r.plan 1 (grids_after r g (entry 1 step t (Table n)))) (lists_of r.plan 1 g) }
    unfolding left_by_item overflow_of grids_after change_of
    item-seen step t n g h =
        let agree : Agree r.plan 1 (grids_of r.plan 1 (lists_of r.plan 1 g)) g = grids_back r.plan 1 g in
        let take : IsTakeable r.plan 1 (item_of r.plan n) = table.items n h in
        let s = item_same r.plan r.answers 1 step (grids_of r.plan 1 (lists_of r.plan 1 g)) g agree wide (item_of r.plan n) take in
        let over = overflow_same r.plan r.answers 1 step (grids_of r.plan 1 (lists_of r.plan 1 g)) g agree wide (item_of r.plan n) take in
        let c : Change = table_change r.plan r.answers (grids_of r.plan 1 (lists_of r.plan 1 g)) 1 step (item_of r.plan n) in
        let e : Change = table_change r.plan r.answers g 1 step (item_of r.plan n) in
        joined step t n c e g s.domain over (lists_agree r.plan 1 (changed c (grids_of r.plan 1 (lists_of r.plan 1 g))) (changed e g) s.grids)
      where
        after_is : (c : Change) (g : Grids) (p : Option Point) → lists_after r.plan 1 c (lists_of r.plan 1 g) p ≡ lists_by p (lists_of r.plan 1 (changed c (grids_of r.plan 1 (lists_of r.plan 1 g)))) (lists_of r.plan 1 g)
        after_is c g None = refl
        after_is c g (Some p) = refl

        joined : (step t n : ℕ) (c e : Change) (g : Grids) → c.domain ≡ e.domain → overflow_in r.plan c ≡ overflow_in r.plan e → lists_of r.plan 1 (changed c (grids_of r.plan 1 (lists_of r.plan 1 g))) ≡ lists_of r.plan 1 (changed e g) →
            ◌≡◌ {A = Left}
            (record { point = option_map (point_of c (entry 1 step 0 (Table n))) (overflow_in r.plan c); lists = lists_after r.plan 1 c (lists_of r.plan 1 g) (option_map (point_of c (entry 1 step 0 (Table n))) (overflow_in r.plan c)) })
            (record { point = option_map (point_of e (entry 1 step t (Table n))) (overflow_in r.plan e); lists = lists_by (option_map (point_of e (entry 1 step t (Table n))) (overflow_in r.plan e)) (lists_of r.plan 1 (changed e g)) (lists_of r.plan 1 g) })
        joined step t n c e g domain over after =
            (λ i. record { point = option_map (point_of c (entry 1 step 0 (Table n))) (overflow_in r.plan c); lists = after_is c g (option_map (point_of c (entry 1 step 0 (Table n))) (overflow_in r.plan c)) i })
            ∙ (λ i. record {
              point = option_map (λ (p : Spot). record { domain = domain i; step = step; what = what.Phase n; field = p.field; k = p.k; j = p.j; i = p.i }) (over i);
              lists = lists_by (option_map (λ (p : Spot). record { domain = domain i; step = step; what = what.Phase n; field = p.field; k = p.k; j = p.j; i = p.i }) (over i)) (after i) (lists_of r.plan 1 g);
            })

    -- one item and what follows
    item-next : (step t n : ℕ) (g : Grids) (f : List (List ℤ) → Left) (rest : Grids → Ran) → n < length r.plan.items → ((h : Grids) → f (lists_of r.plan 1 h) ≡ seen (rest h)) →
        and_on (left_by_item r.plan r.answers 1 step n (lists_of r.plan 1 g)).point (left_by_item r.plan r.answers 1 step n (lists_of r.plan 1 g)).lists f
        ≡ seen (run_on (overflow_of r (entry 1 step t (Table n)) g) g (rest (grids_after r g (entry 1 step t (Table n)))))
    item-next step t n g f rest h same =
        (λ i. and_on (item-seen step t n g h i).point (item-seen step t n g h i).lists f) ∙ by (overflow_of r (entry 1 step t (Table n)) g)
      where
        by : (o : Option Point) → and_on o (lists_by o (lists_of r.plan 1 (grids_after r g (entry 1 step t (Table n)))) (lists_of r.plan 1 g)) f ≡ seen (run_on o g (rest (grids_after r g (entry 1 step t (Table n)))))
        by None = same (grids_after r g (entry 1 step t (Table n)))
        by (Some p) = refl

    -- the items of a step
    pub items-seen : (step t a n : ℕ) (g : Grids) → a + n ≤ length r.plan.items →
        left_by (left_by_item r.plan r.answers 1 step) (range_with_len a n) (lists_of r.plan 1 g) ≡ seen (run_from (map (λ n. entry 1 step t (Table n)) (range_with_len a n)) g)
    unfolding left_by run_from
    items-seen step t a zero g h = refl
    items-seen step t a (suc n) g h =
        item-next step t a g (left_by (left_by_item r.plan r.answers 1 step) (range_with_len (a + 1) n)) (run_from (map (λ n. entry 1 step t (Table n)) (range_with_len (a + 1) n))) (omega (arith, h))
        (λ u. items-seen step t (a + 1) n u (omega (arith, h)))
