-- A run of one domain, one item of its script further.
use Rattle.std.proofs.Common.{◌≡◌, ◌⊎◌, inl, inr, ℕ, ◌+◌, ◌<◌, ◌≤◌, false, nat_lt, List, length, get_or, refl, sym, ap, subst, ◌∙◌, arith, Option, Some, None, Result, Ok, Err}
use Rattle.std.specs.Prelude.{ℤ, option_map, IfSome}
use Rattle.std.proofs.lemmas.Bool.{cases_lt}
use Rattle.std.proofs.lemmas.List.{get_or_default}
use Rattle.wf_model.specs.declared.point.Point.{Point}
use Rattle.wf_model.specs.declared.script.Act.{Act}
use Rattle.wf_model.specs.declared.script.Act.TheVariants.{Start, Force, Feedback, Table, Emit}
use Rattle.wf_model.specs.declared.plan.Plan.{Plan}
use Rattle.wf_model.specs.Value.{Answers}
use Rattle.wf_grid.specs.Takeable.{IsTable, HasRoom}
use Rattle.wf_model.specs.declared.script.Entry.{Entry}
use Rattle.wf_model.specs.Agreement.{IsUpToOverflow}
use Rattle.wf_model.specs.Changes.{nothing, changed, overflow_in}
use Rattle.wf_model.specs.Grids.{Grids}
use Rattle.wf_model.specs.Held.{stands_past}
use Rattle.wf_model.specs.Outcome.{RunData, Overflow, script, entry_at, grids_at, grids_after, act_change, change_of, overflow_of, point_of, outcome_of, begin_grids, no_entry}
use Rattle.wf_model.specs.Plans.{nx, ny}
use Rattle.wf_model.specs.Script.{entry}
use Rattle.wf_model.specs.Sound.{IsLevel}
use Rattle.wf_laws.proofs.Entries.{nothing_changes}
use Rattle.wf_laws.proofs.FirstOverflow.{takes_on, none_before, ends_with, first_is}
use Rattle.wf_grid.specs.Held.{first_lists}
use Rattle.wf_grid.specs.Levels.{AreLists, lists_of, grids_of}
use Rattle.wf_grid.specs.Reached.{IsSteppable, IsReached, OverflowsIn}
use Rattle.wf_grid.specs.Stepped.{Left, left_by_item}
use Rattle.wf_grid.proofs.Agreeing.{Agree, lists_agree}
use Rattle.wf_grid.proofs.Items.{nothing_over, lists_same}
use Rattle.wf_grid.proofs.OwnEntries.{IsOwnEntry, IsOwnAct, entry_own}
use Rattle.wf_grid.proofs.Running.{item-seen, lists_by}
use Rattle.wf_grid.proofs.Steps.{lists_of_are}

-- a place that is not past another
not_past : (m n : ℕ) → m ≤ n → nat_lt n m ≡ false
not_past m n h = grind arith

from_past : (m n : ℕ) → nat_lt n m ≡ false → m ≤ n
from_past m n h = grind arith

no_point : {q : Point} → ◌≡◌ {A = Option Point} None (Some q) → ⊥
no_point e = cc e

module _ (r : RunData) (p : ℕ) (up : IsUpToOverflow r p) where
  -- where the first overflow stands
  pub place_from : (o : Overflow) → outcome_of r ≡ Err o → p ≤ o.place
  place_from o q = from_past p o.place (ap (stands_past p) (sym q) ∙ up.before)

  -- it stands behind an item that does not overflow
  place_behind : (o : Overflow) → outcome_of r ≡ Err o → overflow_of r (entry_at r p) (grids_at r p) ≡ None → p + 1 ≤ o.place
  place_behind o q none = elim (cases_lt p o.place) [
    | inl l ↦ omega (arith, l)
    | inr l ↦
        let here : o.place ≡ p = omega (arith, l, place_from o q) in
        absurd (no_point (sym none ∙ subst (λ (n : ℕ). overflow_of r (entry_at r n) (grids_at r n) ≡ Some o.point) here (first_is r o q).point))
  ]

  -- an item that does not overflow takes the run on
  pub up_more : p < length (script r) → overflow_of r (entry_at r p) (grids_at r p) ≡ None → IsUpToOverflow r (p + 1)
  up_more h none = record {
    within = omega (arith, h);
    before = (elim (outcome_of r) as (λ o. outcome_of r ≡ o → stands_past (p + 1) o ≡ false) [
      | Ok g ↦ λ q. refl
      | Err o ↦ λ q. not_past (p + 1) o.place (place_behind o q none)
    ]) refl;
  }

  same_overflow : (o : Overflow) (q : Point) → o.place ≡ p → o.point ≡ q → ◌≡◌ {A = Result Grids Overflow} (Err o) (Err (record { place = p; point = q }))
  same_overflow o q place point = (λ i. Err (record { place = place i; point = point i }))

  -- and one that overflows is the first
  pub over_here : (q : Point) → p < length (script r) → overflow_of r (entry_at r p) (grids_at r p) ≡ Some q → outcome_of r ≡ Err (record { place = p; point = q })
  over_here q h some =
      (elim (outcome_of r) as (λ o. outcome_of r ≡ o → o ≡ Err (record { place = p; point = q })) [
        | Ok g ↦ λ is. absurd (no_point (sym (none_before r (length (script r)) p (ends_with r g is).1 h) ∙ some))
        | Err o ↦ λ is. by_place o is
      ]) refl
    where
      by_place : (o : Overflow) → outcome_of r ≡ Err o → ◌≡◌ {A = Result Grids Overflow} (Err o) (Err (record { place = p; point = q }))
      by_place o is = elim (cases_lt p o.place) [
        | inl l ↦ absurd (no_point (sym (none_before r o.place p (first_is r o is).reached l) ∙ some))
        | inr l ↦
            let here : o.place ≡ p = omega (arith, l, place_from o is) in
            let both : ◌≡◌ {A = Option Point} (Some o.point) (Some q) = sym (first_is r o is).point ∙ subst (λ (n : ℕ). overflow_of r (entry_at r n) (grids_at r n) ≡ Some q) (sym here) some in
            same_overflow o q here (let same : o.point ≡ q = cc in same)
      ]

-- ---- one item

-- a frame changes nothing
module _ (r : RunData) (e : Entry) (s : ℕ) (is : e.act ≡ Emit s) (g : Grids) where
  emit_is : change_of r g e ≡ nothing
  unfolding change_of
  emit_is = ap (act_change r g e) is

  pub emit_over : overflow_of r e g ≡ None
  unfolding overflow_of
  emit_over = (λ i. option_map (point_of (emit_is i) e) (overflow_in r.plan (emit_is i))) ∙ ap (option_map (point_of nothing e)) (nothing_over r.plan)

  pub emit_after : grids_after r g e ≡ g
  unfolding grids_after
  emit_after = (λ i. changed (emit_is i) g) ∙ sym (nothing_changes g)

-- what follows an item of a run, where a point is named and where none is
pub record IsTaken (r : RunData) (p : ℕ) (point : Option Point) (lists : List (List ℤ)) : Type 0 where
  pub on : point ≡ None → IsReached r (p + 1) lists
  pub over : (q : Point) → point ≡ Some q → OverflowsIn r p (p + 1) q

module _ (r : RunData) (steppable : IsSteppable r) (p : ℕ) (lists : List (List ℤ)) (reached : IsReached r p lists) (more : p < length (script r)) where
  abbrev here : Entry
  here = entry_at r p

  abbrev before : Grids
  before = grids_at r p

  pub own : IsOwnEntry r.plan (entry_at r p)
  own = entry_own r p steppable.one_domain more

  -- by what the item does to the grids
  taken_by : (point : Option Point) (new : List (List ℤ)) → overflow_of r (entry_at r p) (grids_at r p) ≡ point → (point ≡ None → new ≡ lists_of r.plan 1 (grids_after r (grids_at r p) (entry_at r p))) → IsTaken r p point new
  taken_by point new over after = record {
    on = λ none. record { up = up_more r p reached.up more (over ∙ none); same = after none ∙ ap (lists_of r.plan 1) (sym (takes_on r p more)) };
    over = λ q some. record { place = p; low = omega arith; high = omega arith; first = over_here r p reached.up q more (over ∙ some) };
  }

  -- a frame
  pub taken_emit : (s : ℕ) → (entry_at r p).act ≡ Emit s → IsTaken r p None lists
  taken_emit s is = taken_by None lists (emit_over r (entry_at r p) s is (grids_at r p)) (λ none. reached.same ∙ ap (lists_of r.plan 1) (sym (emit_after r (entry_at r p) s is (grids_at r p))))

  are : (g : Grids) → AreLists r.plan 1 (lists_of r.plan 1 g)
  are g = lists_of_are r.plan 1 (first_lists r.initial) g steppable.lists

  wide : (f : ℕ) → IsLevel r.plan f → (1 ≤ nx r.plan 1 f) × (1 ≤ ny r.plan 1 f)
  wide f h = (omega (arith, steppable.lists.wide), omega (arith, steppable.lists.high))

  abbrev over_of : Entry → Option Point
  over_of e = overflow_of r e (grids_at r p)

  -- what the item leaves of the lists
  left_is : (n : ℕ) → (entry_at r p).act ≡ Table n → n < length r.plan.items → left_by_item r.plan r.answers (entry_at r p).domain (entry_at r p).step n lists
      ≡ record { point = overflow_of r (entry_at r p) (grids_at r p); lists = lists_by r are wide steppable.table (overflow_of r (entry_at r p) (grids_at r p)) (lists_of r.plan 1 (grids_after r (grids_at r p) (entry_at r p))) (lists_of r.plan 1 (grids_at r p)) }
  left_is n is h =
      let e : Entry = entry_at r p in
      let g : Grids = grids_at r p in
      let made : entry 1 (entry_at r p).step (entry_at r p).time (Table n) ≡ entry_at r p = (λ i. record { domain = sym own.domain i; step = (entry_at r p).step; time = (entry_at r p).time; act = sym is i }) in
      (λ i. left_by_item r.plan r.answers (own.domain i) (entry_at r p).step n (reached.same i))
      ∙ item-seen r are wide steppable.table (entry_at r p).step (entry_at r p).time n (grids_at r p) h
      ∙ (λ i. record { point = overflow_of r (made i) (grids_at r p); lists = lists_by r are wide steppable.table (overflow_of r (made i) (grids_at r p)) (lists_of r.plan 1 (grids_after r (grids_at r p) (made i))) (lists_of r.plan 1 (grids_at r p)) })

  -- an item of the table
  pub taken_table : (n : ℕ) (point : Option Point) (new : List (List ℤ)) → (entry_at r p).act ≡ Table n →
      point ≡ (left_by_item r.plan r.answers (entry_at r p).domain (entry_at r p).step n lists).point → new ≡ (left_by_item r.plan r.answers (entry_at r p).domain (entry_at r p).step n lists).lists → IsTaken r p point new
  taken_table n point new is same_point same_lists =
      let small : n < length r.plan.items = subst (IsOwnAct r.plan) is own.act in
      let left = left_is n is small in
      let over : overflow_of r (entry_at r p) (grids_at r p) ≡ point = sym (ap (λ (l : Left). l.point) left) ∙ sym same_point in
      taken_by point new over (λ none. same_lists ∙ ap (λ (l : Left). l.lists) left
      ∙ ap (λ (o : Option Point). lists_by r are wide steppable.table o (lists_of r.plan 1 (grids_after r (grids_at r p) (entry_at r p))) (lists_of r.plan 1 (grids_at r p))) (over ∙ none))

-- the lists of a place that is reached
pub lists_reached : (r : RunData) → IsSteppable r → (p : ℕ) (lists : List (List ℤ)) → IsReached r p lists → (plan : Plan) → plan ≡ r.plan → AreLists plan 1 lists
lists_reached r steppable p lists reached plan plan_is =
    subst (λ (x : Plan). AreLists x 1 lists) (sym plan_is) (subst (AreLists r.plan 1) (sym reached.same) (lists_of_are r.plan 1 (first_lists r.initial) (grids_at r p) steppable.lists))

-- the same, of the plan and the entry that the code has at hand
module _ (r : RunData) (steppable : IsSteppable r) (p : ℕ) (lists : List (List ℤ)) (reached : IsReached r p lists) (more : p < length (script r)) (plan : Plan) (plan_is : plan ≡ r.plan) (e : Entry) (is : e ≡ entry_at r p) where
  first_is_one : e.domain ≡ 1
  first_is_one = ap (λ (x : Entry). x.domain) is ∙ (own r steppable p lists reached more).domain

  -- what is so of domain 1 of the run's plan
  moved : (P : Plan → ℕ → Type 0) → P r.plan 1 → P plan e.domain
  moved P h = subst (P plan) (sym first_is_one) (subst (λ (x : Plan). P x 1) (sym plan_is) h)

  pub needs_lists : AreLists plan e.domain lists
  needs_lists = moved (λ x d. AreLists x d lists) (subst (AreLists r.plan 1) (sym reached.same) (lists_of_are r.plan 1 (first_lists r.initial) (grids_at r p) steppable.lists))

  pub needs_table : IsTable plan e.domain
  needs_table = moved IsTable steppable.table

  pub needs_room : (scratch : List ℤ) → HasRoom r.plan 1 scratch → HasRoom plan e.domain scratch
  needs_room scratch room = moved (λ x d. HasRoom x d scratch) room

  pub needs_item : (n : ℕ) → e.act ≡ Table n → n < length plan.items
  needs_item n act =
      let small : n < length r.plan.items = subst (IsOwnAct r.plan) (ap (λ (x : Entry). x.act) (sym is) ∙ act) (own r steppable p lists reached more).act in
      subst (λ (x : Plan). n < length x.items) (sym plan_is) small

  pub item_taken : (m : Answers) → r.answers ≡ m → (n : ℕ) (point : Option Point) (new : List (List ℤ)) → e.act ≡ Table n → point ≡ (left_by_item plan m e.domain e.step n lists).point →
      new ≡ (left_by_item plan m e.domain e.step n lists).lists → IsTaken r p point new
  item_taken m answers n point new act same_point same_lists =
      taken_table r steppable p lists reached more n point new (ap (λ (x : Entry). x.act) (sym is) ∙ act)
      (same_point ∙ (λ i. (left_by_item (plan_is i) (sym answers i) (is i).domain (is i).step n lists).point))
      (same_lists ∙ (λ i. (left_by_item (plan_is i) (sym answers i) (is i).domain (is i).step n lists).lists))

  -- an item that is none of the table is a frame, and does nothing
  pub frame_taken : (act : Act) → e.act ≡ act → ((n : ℕ) → act ≡ Table n → ⊥) → IsTaken r p None lists
  frame_taken act at none = by act (ap (λ (x : Entry). x.act) (sym is) ∙ at) none
    where
      by : (act : Act) → (entry_at r p).act ≡ act → ((n : ℕ) → act ≡ Table n → ⊥) → IsTaken r p None lists
      by Start at none = absurd (subst (IsOwnAct r.plan) at (own r steppable p lists reached more).act)
      by Force at none = absurd (subst (IsOwnAct r.plan) at (own r steppable p lists reached more).act)
      by Feedback at none = absurd (subst (IsOwnAct r.plan) at (own r steppable p lists reached more).act)
      by (Table n) at none = absurd (none n refl)
      by (Emit s) at none = taken_emit r steppable p lists reached more s at

-- an act that is none of the table
pub none_of_table : (act : Act) → (act ≡ Start) ⊎ ((act ≡ Force) ⊎ ((act ≡ Feedback) ⊎ ((s : ℕ) × (act ≡ Emit s)))) → (n : ℕ) → act ≡ Table n → ⊥
none_of_table act (inl h) n is = let e : ◌≡◌ {A = Act} Start (Table n) = sym h ∙ is in absurd (cc e)
none_of_table act (inr (inl h)) n is = let e : ◌≡◌ {A = Act} Force (Table n) = sym h ∙ is in absurd (cc e)
none_of_table act (inr (inr (inl h))) n is = let e : ◌≡◌ {A = Act} Feedback (Table n) = sym h ∙ is in absurd (cc e)
none_of_table act (inr (inr (inr h))) n is = let e : ◌≡◌ {A = Act} (Emit h.0) (Table n) = sym h.1 ∙ is in absurd (cc e)

-- what is so of the point, where there is one
pub if_some : {A : Type 0} (P : A → Type 0) (o : Option A) → ((x : A) → o ≡ Some x → P x) → IfSome o P
if_some P None h = tt
if_some P (Some x) h = h x refl

-- the lists that a run begins with
begins_agree : (r : RunData) → Agree r.plan 1 (grids_of r.plan 1 (first_lists r.initial)) (begin_grids r)
unfolding grids_of begin_grids
begins_agree r = record { same = λ f k j i level inside. refl }

first_past : (o : Result Grids Overflow) → stands_past 0 o ≡ false
first_past (Ok g) = refl
first_past (Err o) = not_past 0 o.place (omega arith)

-- before the first item
pub reached_none : (r : RunData) → IsSteppable r → (lists : List (List ℤ)) → lists ≡ first_lists r.initial → IsReached r 0 lists
unfolding grids_at
reached_none r steppable lists e = record {
  up = record { within = omega arith; before = first_past (outcome_of r) };
  same = e ∙ lists_same r.plan 1 (first_lists r.initial) steppable.lists ∙ lists_agree r.plan 1 (grids_of r.plan 1 (first_lists r.initial)) (begin_grids r) (begins_agree r);
}

-- the entry at a place, as the code reads it
pub entry_is : (r : RunData) (es : List Entry) (p : ℕ) (d : Entry) → es ≡ script r → p < length (script r) → get_or es p d ≡ entry_at r p
unfolding entry_at
entry_is r es p d e h = ap (λ (xs : List Entry). get_or xs p d) e ∙ get_or_default (script r) p d no_entry h

-- places that lie further apart
pub overflow_wider : (r : RunData) (a b c d : ℕ) (q : Point) → c ≤ a → b ≤ d → OverflowsIn r a b q → OverflowsIn r c d q
overflow_wider r a b c d q low high o = record { place = o.place; low = omega (arith, low, o.low); high = omega (arith, high, o.high); first = o.first }
