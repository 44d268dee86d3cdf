-- What is fresh for a patch of one point is fresh for each patch that it is part of.
use Rattle.std.proofs.Common.{◌≡◌, ⊎_elim, ℕ, ◌+◌, ◌-◌, ◌*◌, ◌/◌, ◌%◌, ◌≤◌, ◌<◌, true, List, reverse, sym, ◌∙◌, arith}
use Rattle.std.proofs.lemmas.Int.{ints}
use Rattle.std.specs.Prelude.{ℤ, pos, ◌-ℤ◌, ◌≤ℤ◌, ◌<ℤ◌, ◌==◌, if◌then◌else◌}
use Rattle.std.specs.List.{Contains}
use Rattle.wf_model.specs.declared.plan.Plan.{Plan}
use Rattle.wf_model.specs.Plans.{domain_of, nx, ny}
use Rattle.wf_model.specs.Patches.{Split, Span, split_of, fine, in_span, block, own_box, is_own}
use Rattle.wf_model.specs.Cycle.{Turn, cycle_of}
use Rattle.wf_model.specs.Marks.{all_fresh, marks_after, is_fresh}
use Rattle.wf_model.specs.Sound.{IsSoundPlan}
use Rattle.wf_laws.specs.Walks.{IsPartOf, FreshForThePartIsFreshForTheWhole}
use Rattle.wf_laws.proofs.Bools.{and_left, and_right, and_both, or_left, or_right, split_bool, or_else}
use Rattle.wf_laws.proofs.Members.{In, All-In, Contains-In}
use Rattle.wf_laws.proofs.Spans.{span-in, span-low, span-high, block_some}
use Rattle.wf_laws.proofs.Places.{IsRoom, room_of}
use Rattle.wf_laws.proofs.Boxes.{IsIn, grows}
use Rattle.wf_laws.proofs.Grows.{SwapsAlike, walk-grows}
use Rattle.wf_laws.proofs.Rounds.{alike_of, In-reverse}
use Rattle.wf_laws.proofs.Fresh.{turn_sound}
use Rattle.wf_laws.proofs.AnyLayout.{marks_agree}

-- a span whose numbers lie in another lies in it
IsIn-of : (s t : Span) → s.low <ℤ s.high → ((c : ℤ) → in_span s c ≡ true → in_span t c ≡ true) → IsIn s t
IsIn-of s t some h =
    let first = h s.low (span-in s s.low (omega (arith, ints)) some) in
    let last = h (s.high -ℤ pos 1) (span-in s (s.high -ℤ pos 1) (omega (arith, ints)) (omega (arith, ints))) in
    record { low = span-low t s.low first; high = after (s.high) (t.high) (span-high t (s.high -ℤ pos 1) last) }
  where
    after : (a b : ℤ) → (a -ℤ pos 1) <ℤ b → a ≤ℤ b
    after a b h = omega (arith, ints)

-- a block of a length that is no shorter than their number is not empty
block_holds : (p n len more : ℕ) → 0 < n → n ≤ len → (block p n len more).low <ℤ (block p n len more).high
block_holds p n len more hn room = at (p * len / n) ((p + 1) * len / n) (if p + 1 == n then more else 0) (block_some p n len hn room)
  where
    at : (a b m : ℕ) → a < b → pos (a + 1) <ℤ pos (b + 1 + m)
    at a b m h = omega (arith, ints)

module _ (plan : Plan) (sound : IsSoundPlan plan) (big : Split) (d q p : ℕ) (room : IsRoom plan big d) (part : IsPartOf plan (fine plan d) big d q p) where
  -- the domain is not empty in x
  wide : 0 < (domain_of plan d).ide - 1
  wide = omega (arith, room.some_x, room.room_x)

  -- nor in y
  high : 0 < (domain_of plan d).jde - 1
  high = omega (arith, room.some_y, room.room_y)

  -- the smaller patch's own box is not empty in x
  some_x : (f : ℕ) → (own_box plan (fine plan d) d q f).x.low <ℤ (own_box plan (fine plan d) d q f).x.high
  unfolding own_box
  some_x f = block_holds (q % ((domain_of plan d).ide - 1)) ((domain_of plan d).ide - 1) ((domain_of plan d).ide - 1) (nx plan d f - ((domain_of plan d).ide - 1)) wide (omega arith)

  -- nor in y
  some_y : (f : ℕ) → (own_box plan (fine plan d) d q f).y.low <ℤ (own_box plan (fine plan d) d q f).y.high
  unfolding own_box
  some_y f = block_holds (q / ((domain_of plan d).ide - 1)) ((domain_of plan d).jde - 1) ((domain_of plan d).jde - 1) (ny plan d f - ((domain_of plan d).jde - 1)) high (omega arith)

  -- it lies in the larger one's, in x
  within_x : (f : ℕ) → IsIn (own_box plan (fine plan d) d q f).x (own_box plan big d p f).x
  unfolding is_own
  within_x f =
      IsIn-of (own_box plan (fine plan d) d q f).x (own_box plan big d p f).x (some_x f)
      (λ c h. and_right _ _ (part f (own_box plan (fine plan d) d q f).y.low c (and_both _ _ (span-in (own_box plan (fine plan d) d q f).y (own_box plan (fine plan d) d q f).y.low (omega (arith, ints)) (some_y f)) h)))

  -- and in y
  within_y : (f : ℕ) → IsIn (own_box plan (fine plan d) d q f).y (own_box plan big d p f).y
  unfolding is_own
  within_y f =
      IsIn-of (own_box plan (fine plan d) d q f).y (own_box plan big d p f).y (some_y f)
      (λ c h. and_left _ _ (part f c (own_box plan (fine plan d) d q f).x.low (and_both _ _ h (span-in (own_box plan (fine plan d) d q f).x (own_box plan (fine plan d) d q f).x.low (omega (arith, ints)) (some_x f)))))

  -- so what is fresh for the one is fresh for the other
  grows_fresh : (f k : ℕ) (j i : ℤ) (ts : List Turn) → ((x : Turn) → In x ts → In x (cycle_of plan d)) →
      is_fresh plan (fine plan d) d q (marks_after plan (fine plan d) d q ts all_fresh) f k j i ≡ true → is_fresh plan big d p (marks_after plan big d p ts all_fresh) f k j i ≡ true
  grows_fresh f k j i ts items h =
      let alike : SwapsAlike plan (fine plan d) big d q p k j i (reverse ts) =
      alike_of plan (fine plan d) big d q p k j i (reverse ts) (λ x t. (turn_sound plan sound big d room (fine plan d) q p k j i x (items x (In-reverse x ts t))).1) in
      let mark = marks_agree plan (fine plan d) d q f k j i ts in
      let marked = marks_agree plan big d p f k j i ts in
      ⊎_elim (λ own. or_left _ _ (part f j i own))
      (λ own. ⊎_elim (or_left _ _) (λ w. or_right (is_own plan big d p f j i) _ (marked ∙ w))
      (walk-grows plan (fine plan d) big d q p k j i (grows plan big d p q within_x within_y k j i) (reverse ts) alike f (sym mark ∙ or_else _ _ own h)))
      (split_bool (is_own plan (fine plan d) d q f j i))

-- what is fresh for the part is fresh for the whole
pub fresh_whole : FreshForThePartIsFreshForTheWhole
fresh_whole plan layout d q p f k j i ts sound laid is hq hp part items h =
    grows_fresh plan sound (split_of layout) d q p (room_of plan layout laid d is) part f k j i ts
    (λ x t. Contains-In x (cycle_of plan d) (All-In (Contains (cycle_of plan d)) x ts items t)) h
