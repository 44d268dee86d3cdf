-- One step in one direction: spans of one point, places inside a domain, and the ends of regions.
use Rattle.std.proofs.Common.{◌≡◌, ◌⊎◌, inl, inr, ⊎_elim, ℕ, ◌+◌, ◌-◌, ◌*◌, ◌/◌, ◌<◌, ◌≤◌, Bool, true, false, List, refl, sym, ap, subst, ◌∙◌, arith}
use Rattle.std.proofs.Math.Nat.{mul-div_cancel}
use Rattle.std.proofs.lemmas.Int.{ints, clamps}
use Rattle.std.specs.Prelude.{ℤ, pos, ◌+ℤ◌, ◌-ℤ◌, ◌≤ℤ◌, ◌<ℤ◌, ◌==◌, unsigned_abs, if◌then◌else◌}
use Rattle.wf_model.specs.declared.plan.Plan.{Plan}
use Rattle.wf_model.specs.declared.plan.Phase.{Phase}
use Rattle.wf_model.specs.declared.plan.Item.{Item}
use Rattle.wf_model.specs.declared.plan.Item.TheVariants as item
use Rattle.wf_model.specs.Plans.{item_of, no_item, wrapped, is_within, is_inside}
use Rattle.wf_model.specs.Patches.{Span, in_span, grown, block, cut_unless}
use Rattle.wf_model.specs.Covered.{Asked, all_asked}
use Rattle.wf_laws.proofs.Bools.{unlike}
use Rattle.wf_laws.proofs.Members.{In, In-get_or}
use Rattle.wf_laws.proofs.Spans.{span-in, span-low, span-high, none_if}
use Rattle.wf_laws.proofs.Places.{whole, wrapped-back}
use Rattle.wf_laws.proofs.Cells.{cut-in}
use Rattle.wf_laws.proofs.AnyLayout.{asked_out}
use Rattle.wf_check_laws.specs.Repeats.{is_away}

-- two truth values of which each leads to the other
pub same_bool : (a b : Bool) → (a ≡ true → b ≡ true) → (b ≡ true → a ≡ true) → a ≡ b
same_bool true b f g = sym (f refl)
same_bool false true f g = g refl
same_bool false false f g = refl

-- a span of the one point p + 1
pub record IsPoint (s : Span) (p : ℕ) : Type 0 where
  pub low : s.low ≡ pos (p + 1)
  pub high : s.high ≡ pos (p + 2)

-- a block of as many as there are points, but for the last
pub one_point : (p len more : ℕ) → p + 1 < len → IsPoint (block p len len more) p
one_point p len more h =
    let some : 0 < len = omega arith in
    let here : p * len / len ≡ p = mul-div_cancel p some in
    let next : (p + 1) * len / len ≡ p + 1 = mul-div_cancel (p + 1) some in
    let none : (if p + 1 == len then more else 0) ≡ 0 = none_if (p + 1 == len) more (unlike (p + 1) len (λ e. not_last p len h e)) in
    record { low = ap (λ (m : ℕ). pos (m + 1)) here; high = (λ n. pos (next n + 1 + none n)) ∙ ap pos (two p) }
  where
    not_last : (p len : ℕ) → p + 1 < len → len ≡ p + 1 → ⊥
    not_last p len h e = omega arith

    two : (p : ℕ) → p + 1 + 1 + 0 ≡ p + 2
    two p = omega arith

-- the grown span of the next point holds the next numbers
pub moved_grown : (s t : Span) (p n : ℕ) (c e : ℤ) → IsPoint s p → IsPoint t (p + 1) → e ≡ c +ℤ pos 1 → in_span (grown n s) c ≡ in_span (grown n t) e
moved_grown s t p n c e a b is =
    same_bool _ _
    (λ h. let l : (s.low -ℤ pos n) ≤ℤ c = span-low (grown n s) c h in
    let u : c <ℤ (s.high +ℤ pos n) = span-high (grown n s) c h in
    span-in (grown n t) e (omega (arith, ints, a.low, b.low)) (omega (arith, ints, a.high, b.high)))
    (λ h. let l : (t.low -ℤ pos n) ≤ℤ e = span-low (grown n t) e h in
    let u : e <ℤ (t.high +ℤ pos n) = span-high (grown n t) e h in
    span-in (grown n s) c (omega (arith, ints, a.low, b.low)) (omega (arith, ints, a.high, b.high)))

-- and so does the span itself
pub moved_plain : (s t : Span) (p : ℕ) (c e : ℤ) → IsPoint s p → IsPoint t (p + 1) → e ≡ c +ℤ pos 1 → in_span s c ≡ in_span t e
moved_plain s t p c e a b is =
    same_bool _ _
    (λ h. let l : s.low ≤ℤ c = span-low s c h in
    let u : c <ℤ s.high = span-high s c h in
    span-in t e (omega (arith, ints, a.low, b.low)) (omega (arith, ints, a.high, b.high)))
    (λ h. let l : t.low ≤ℤ e = span-low t e h in
    let u : e <ℤ t.high = span-high t e h in
    span-in s c (omega (arith, ints, a.low, b.low)) (omega (arith, ints, a.high, b.high)))

-- inside the domain nothing is cut
pub uncut : (b : Bool) (n : ℕ) (s : Span) (c : ℤ) → in_span (whole n) c ≡ true → in_span (cut_unless b 1 n s) c ≡ in_span s c
uncut true n s c w = refl
uncut false n s c w =
    same_bool _ _
    (λ h. let l : (cut_unless false 1 n s).low ≤ℤ c = span-low (cut_unless false 1 n s) c h in
    let u : c <ℤ (cut_unless false 1 n s).high = span-high (cut_unless false 1 n s) c h in
    span-in s c (omega (arith, ints, clamps)) (omega (arith, ints, clamps)))
    (cut-in false n s c w)

-- a number near c is none of those that are away from c
not_there : (m c b x : ℕ) → is_away m c b ≡ true → c ≤ x + m → x ≤ c + m → (x < b) ⊎ (b < x)
not_there m c b x h l u = grind arith

-- where no end lies, a number is within as the next one
within_step : (a b m : ℕ) → (m < a) ⊎ (a < m) → (m < b) ⊎ (b < m) → is_within (a + 1) b m ≡ is_within (a + 1) b (m + 1)
within_step a b m p q = same_bool _ _ (λ h. grind arith) (λ h. grind arith)

-- what the ends of regions are in a direction
abbrev pub AreEndsAway : Bool → (ℕ → ℕ) → (Phase → ℕ) → List Item → ℕ → ℕ → Type 0
AreEndsAway periodic size margin items m c =
    (ph : Phase) → In (item.Phase ph) items → (periodic ≡ true) ⊎ ((is_away m c (margin ph) ≡ true) × (is_away m c (size ph.writes - margin ph) ≡ true))

-- a place and the next one, both inside the domain, and in the same regions
pub record IsStep (periodic : Bool) (size : ℕ → ℕ) (margin : Phase → ℕ) (items : List Item) (c e : ℤ) : Type 0 where
  pub here : (f : ℕ) → in_span (whole (size f)) c ≡ true
  pub next : (f : ℕ) → in_span (whole (size f)) e ≡ true
  pub region : (ph : Phase) → In (item.Phase ph) items → is_inside periodic (margin ph) (size ph.writes) (wrapped periodic (size ph.writes) c) ≡ is_inside periodic (margin ph) (size ph.writes) (wrapped periodic (size ph.writes) e)

-- for a number
inside_step : (periodic : Bool) (margin n m : ℕ) → 1 ≤ m → m + 1 ≤ n → (periodic ≡ true) ⊎ (((m < margin) ⊎ (margin < m)) × ((m < n - margin) ⊎ (n - margin < m))) →
    is_inside periodic margin n m ≡ is_inside periodic margin n (m + 1)
inside_step true margin n m l u h = same_bool _ _ (λ t. grind arith) (λ t. grind arith)
inside_step false margin n m l u h = ⊎_elim (λ e. absurd (not_so e)) (λ q. within_step margin (n - margin) m q.0 q.1) h
  where
    not_so : false ≡ true → ⊥
    not_so e = cc

module _ (periodic : Bool) (size : ℕ → ℕ) (margin : Phase → ℕ) (items : List Item) (len m x : ℕ) (fits : (f : ℕ) → len ≤ size f) (low : m < x) (high : x + m < len) (away : AreEndsAway periodic size margin items m x) where
  -- a number near x
  step_number : (n : ℕ) → x ≤ n + m → n ≤ x + m → IsStep periodic size margin items (pos n) (pos (n + 1))
  step_number n l u = record {
    here = λ f. let long : len ≤ size f = fits f in span-in (whole (size f)) (pos n) (omega (arith, ints)) (omega (arith, ints));
    next = λ f. let long : len ≤ size f = fits f in span-in (whole (size f)) (pos (n + 1)) (omega (arith, ints)) (omega (arith, ints));
    region = λ ph h.
        let long : len ≤ size ph.writes = fits ph.writes in
        ap (is_inside periodic (margin ph) (size ph.writes)) (wrapped-back periodic (size ph.writes) n (omega arith) (omega arith))
        ∙ inside_step periodic (margin ph) (size ph.writes) n (omega arith) (omega arith)
        (⊎_elim (λ p. inl p) (λ q. inr (not_there m x (margin ph) n q.0 l u, not_there m x (size ph.writes - margin ph) n q.1 l u)) (away ph h))
        ∙ sym (ap (is_inside periodic (margin ph) (size ph.writes)) (wrapped-back periodic (size ph.writes) (n + 1) (omega arith) (omega arith)));
  }

  -- a place near x
  pub step_near : (c e : ℤ) → e ≡ c +ℤ pos 1 → pos x ≤ℤ (c +ℤ pos m) → c ≤ℤ pos (x + m) → IsStep periodic size margin items c e
  step_near c e is l u =
      let here : pos (unsigned_abs c) ≡ c = omega (arith, ints) in
      let next : pos (unsigned_abs c + 1) ≡ e = omega (arith, ints) in
      let s = step_number (unsigned_abs c) (omega (arith, ints)) (omega (arith, ints)) in
      record {
        here = λ f. ap (λ (z : ℤ). in_span (whole (size f)) z) (sym here) ∙ s.here f;
        next = λ f. ap (λ (z : ℤ). in_span (whole (size f)) z) (sym next) ∙ s.next f;
        region = λ ph h.
            ap (λ (z : ℤ). is_inside periodic (margin ph) (size ph.writes) (wrapped periodic (size ph.writes) z)) (sym here) ∙ s.region ph h
            ∙ ap (λ (z : ℤ). is_inside periodic (margin ph) (size ph.writes) (wrapped periodic (size ph.writes) z)) next;
      }

-- a length is at most itself with more
pub at_most_more : (a b : ℕ) → a ≤ a + b
at_most_more a b = omega arith

-- the phase of a read is an item of the table
pub asked_member : (plan : Plan) (a : Asked) → In a (all_asked plan) → In (item.Phase a.phase) plan.items
unfolding item_of
asked_member plan a h = let is = asked_out plan a h in subst (λ (it : Item). In it plan.items) is.phase (In-get_or plan.items a.item no_item is.within)

-- numbers near the point of the patch
pub near_point : (x n m : ℕ) (z c : ℤ) → unsigned_abs z ≤ m → pos (x + 1) ≤ℤ (c +ℤ pos n) → c <ℤ pos (x + 2 + n) → (pos (x + 1) ≤ℤ ((c +ℤ z) +ℤ pos (n + m))) × ((c +ℤ z) ≤ℤ pos (x + 1 + (n + m)))
near_point x n m z c h l u = (omega (arith, ints), omega (arith, ints))

-- the number itself
pub near_itself : (x n m : ℕ) (c : ℤ) → pos (x + 1) ≤ℤ (c +ℤ pos n) → c <ℤ pos (x + 2 + n) → (pos (x + 1) ≤ℤ (c +ℤ pos (n + m))) × (c ≤ℤ pos (x + 1 + (n + m)))
near_itself x n m c l u = (omega (arith, ints), omega (arith, ints))

-- the next place, moved
pub moved_next : (i z : ℤ) → (i +ℤ pos 1) +ℤ z ≡ (i +ℤ z) +ℤ pos 1
moved_next i z = omega (arith, ints)
