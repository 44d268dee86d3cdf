-- What the halo rule finds covered in the finest layout is covered in each layout.
use Rattle.std.proofs.Common.{◌≡◌, ⊎_elim, ℕ, suc, ◌+◌, ◌*◌, ◌<◌, true, List, [], ◌∷◌, reverse, length, get_or, sym, ap, subst, ◌∙◌, arith}
use Rattle.std.proofs.lemmas.List.{reverse-reverse}
use Rattle.std.specs.Prelude.{ℤ, ◌+ℤ◌, ◌||◌, not, flat_map}
use Rattle.std.specs.List.{enumerate_from}
use Rattle.wf_model.specs.declared.plan.Plan.{Plan}
use Rattle.wf_model.specs.declared.plan.Item.{Item}
use Rattle.wf_model.specs.declared.plan.Item.TheVariants as item
use Rattle.wf_model.specs.Plans.{field_of, item_of, no_item, domains_of, level_at}
use Rattle.wf_model.specs.Reads.{Read, reads_of}
use Rattle.wf_model.specs.Patches.{Split, fine, is_own, computes, split_of}
use Rattle.wf_model.specs.Cycle.{Turn, cycle_of, before_items}
use Rattle.wf_model.specs.Marks.{all_fresh, marks_after}
use Rattle.wf_model.specs.Covered.{Asked, asked_of, all_asked, is_cell_covered, IsReadCovered, IsCovered, walk, looked_back}
use Rattle.wf_model.specs.Sound.{IsDomain, IsSoundPlan}
use Rattle.wf_laws.specs.Walks.{MarksAgreeWithTheWalk, LeavingOutLosesNothing, LookingLessFarLosesNothing, TwoCyclesAreEnough, CoveredInEachLayout}
use Rattle.wf_laws.proofs.Bools.{or_left, or_right, split_bool, or_else}
use Rattle.wf_laws.proofs.Members.{In, In-map_out, In-flat_map_out, In-range_out, All-In, Contains-In}
use Rattle.wf_laws.proofs.Places.{IsRoom, room_of}
use Rattle.wf_laws.proofs.Boxes.{grows}
use Rattle.wf_laws.proofs.Walks.{backwards_is, marks-walk}
use Rattle.wf_laws.proofs.Grows.{walk-left_out, walk-shorter, walk-grows}
use Rattle.wf_laws.proofs.Rounds.{alike_back, pass_any}
use Rattle.wf_laws.proofs.Fresh.{asked, fine_of, own_larger, or_take, turn_sound, pair_swaps}

-- the marks over some items are what the walk back over them finds
pub marks_agree : MarksAgreeWithTheWalk
marks_agree plan split d p f k j i ts =
    ap (λ (us : List Turn). marks_after plan split d p us all_fresh f k j i) (sym (backwards_is (reverse ts) ∙ reverse-reverse ts)) ∙ marks-walk plan split d p k j i (reverse ts) f

-- a walk loses nothing where forces and feedbacks are left out
pub left_out : LeavingOutLosesNothing
left_out plan split d p f k j i ts us out h = walk-left_out plan split d p k j i out f h

-- nor where it looks less far back
pub less_far : LookingLessFarLosesNothing
less_far plan split d p f k j i ts us h = walk-shorter plan split d p k j i ts us f h

-- two whole cycles are enough
pub two_enough : TwoCyclesAreEnough
two_enough plan split d p f k j i at n sound level h =
    pass_any plan split d p k j i (λ g. (field_of plan g).pair) (cycle_of plan d) at f (pair_swaps plan sound d) (sound.pairs f level).back h n

-- a numbered list has each element under its number
In-enumerate_out : {X : Type 0} (xs : List X) (a : ℕ) (q : ℕ × X) → In q (enumerate_from a xs) → (c : X) → (n : ℕ) × (n < length xs) × (q.0 ≡ a + n) × (q.1 ≡ get_or xs n c)
In-enumerate_out [] a q h c = absurd h
In-enumerate_out (x ∷ xs) a q h c =
    ⊎_elim (λ e. (0, omega arith, ap (λ (y : _). y.0) e ∙ zero_right a, ap (λ (y : _). y.1) e))
    (λ t. let r = In-enumerate_out xs (a + 1) q t c in (suc r.0, omega (arith, r.1), r.2 ∙ moved a r.0, r.3)) h
  where
    zero_right : (a : ℕ) → a ≡ a + 0
    zero_right a = omega arith

    moved : (a n : ℕ) → a + 1 + n ≡ a + suc n
    moved a n = omega arith

-- a read that the rule asks of: of a phase of the plan, in a domain of the plan
pub record IsAsked (plan : Plan) (a : Asked) : Type 0 where
  pub domain : IsDomain plan a.domain
  pub within : a.item < length plan.items
  pub phase : item_of plan a.item ≡ item.Phase a.phase
  pub read : In a.read (reads_of a.phase.expr)

-- a read of one item
asked_here : (plan : Plan) (d n : ℕ) (it : Item) (a : Asked) → IsDomain plan d → n < length plan.items → item_of plan n ≡ it → In a (asked_of d n it) → IsAsked plan a
asked_here plan d n (item.Halo parts) a is w e h = absurd h
asked_here plan d n (item.Period parts) a is w e h = absurd h
asked_here plan d n (item.Swap one two) a is w e h = absurd h
asked_here plan d n (item.Phase ph) a is w e h =
    let m = In-map_out (λ (r : Read). record { domain = d; item = n; phase = ph; read = r }) a (reads_of ph.expr) h in
    subst (IsAsked plan) (sym m.2) (record { domain = is; within = w; phase = e; read = m.1 })

-- each read that the rule asks of is one of a phase of the plan
pub asked_out : (plan : Plan) (a : Asked) → In a (all_asked plan) → IsAsked plan a
unfolding all_asked item_of
asked_out plan a h =
    let d = In-flat_map_out (λ (c : ℕ). flat_map (λ (p : ℕ × Item). asked_of c p.0 p.1) (enumerate_from 0 plan.items)) a (domains_of plan) h in
    let p = In-flat_map_out (λ (p : ℕ × Item). asked_of d.0 p.0 p.1) a (enumerate_from 0 plan.items) d.2 in
    let n = In-enumerate_out plan.items 0 p.0 p.1 no_item in
    let r = In-range_out d.0 1 (length plan.domains) d.1 in
    let number : (p.0).0 ≡ n.0 = n.2 ∙ zero_left n.0 in
    asked_here plan d.0 (p.0).0 (p.0).1 a (r.0, omega (arith, r.1)) (subst (λ (m : ℕ). m < length plan.items) (sym number) n.1)
    (ap (item_of plan) number ∙ sym n.3) p.2
  where
    zero_left : (n : ℕ) → 0 + n ≡ n
    zero_left n = omega arith

module _ (plan : Plan) (sound : IsSoundPlan plan) (split : Split) (a : Asked) (room : IsRoom plan split a.domain) (is : IsAsked plan a) (covered : IsCovered plan) where
  -- the domain
  abbrev d : ℕ
  d = a.domain

  -- a computed cell's read is of an own cell, or covered
  covered_here : (p : ℕ) → p < split.in_x * split.in_y → (k : ℕ) (j i : ℤ) → computes plan split d p a.phase k j i ≡ true →
      (is_own plan split d p a.read.field (j +ℤ a.read.dj) (i +ℤ a.read.di)
      || walk plan split d p (level_at plan a.read.field k a.read.dk) (j +ℤ a.read.dj) (i +ℤ a.read.di) (looked_back (cycle_of plan d) (length (before_items d) + a.item)) a.read.field) ≡ true
  unfolding IsCovered IsReadCovered
  covered_here p hp k j i c =
      let q = fine_of plan sound split d room p hp a.phase k j i c in
      let rd : Read = a.read in
      let at : is_cell_covered plan a q.0 k j i ≡ true = All-In (IsReadCovered plan) a (all_asked plan) covered (asked plan sound split d room is.domain a.item a.phase a.read is.within is.phase is.read) q.0 k j i q.1 in
      let l : ℕ = level_at plan rd.field k rd.dk in
      let j' : ℤ = j +ℤ rd.dj in
      let i' : ℤ = i +ℤ rd.di in
      let or = or_take plan sound split d room _ _ q.4 at in
      ⊎_elim
      (λ o. or_left _ _ (own_larger plan sound split d room q.0 p rd.field j' i' (q.2 rd.field) (q.3 rd.field) o))
      (λ o. ⊎_elim (or_left _ _) (or_right _ _)
      (walk-grows plan (fine plan d) split d q.0 p l j' i' (grows plan split d p q.0 q.2 q.3 l j' i') (looked_back (cycle_of plan d) (length (before_items d) + a.item))
      (alike_back plan (fine plan d) split d q.0 p l j' i' (cycle_of plan d) (length (before_items d) + a.item) (λ x u. (turn_sound plan sound split d room (fine plan d) q.0 p l j' i' x u).1)) rd.field
      (or_else _ _ o or)))
      (split_bool (is_own plan (fine plan d) d q.0 rd.field j' i'))

-- what is covered in the finest layout is covered in each
pub each_layout : CoveredInEachLayout
each_layout plan layout a p k j i sound laid covered h hp =
    let is = asked_out plan a (Contains-In a (all_asked plan) h) in
    let split : Split = split_of layout in
    ⊎_elim
    (λ c. or_right (not (computes plan (split_of layout) a.domain p a.phase k j i)) _ (covered_here plan sound (split_of layout) a (room_of plan layout laid a.domain is.domain) is covered p hp k j i c))
    (λ c. or_left (not (computes plan (split_of layout) a.domain p a.phase k j i)) _ (ap not c))
    (split_bool (computes plan (split_of layout) a.domain p a.phase k j i))
