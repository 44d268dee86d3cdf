-- The outcome of a run place by place: no item overflows before the first overflow, and it is that of its item.
use Rattle.std.proofs.Common.{◌≡◌, ℕ, zero, suc, ◌+◌, ◌≤◌, ◌<◌, List, [], ◌∷◌, take, length, get_or, false, nat_lt, refl, sym, ap, ◌∙◌, arith, Some, None, Result, Ok, Err}
use Rattle.std.specs.Prelude.{fold}
use Rattle.wf_model.specs.declared.script.Entry.{Entry}
use Rattle.wf_model.specs.declared.point.Point.{Point}
use Rattle.wf_model.specs.Grids.{Grids}
use Rattle.wf_model.specs.Outcome.{RunData, Overflow, script, no_entry, entry_at, begin_grids, grids_after, grids_at, overflow_of, or_go_on, outcome_from, outcome_of}
use Rattle.wf_model.specs.Held.{stands_past}
use Rattle.wf_model.specs.Agreement.{IsUpToOverflow}
use Rattle.wf_laws.specs.Outcomes.{ItemTakesTheGridsOn, NoItemBeforeOverflows, RunEndsWithItsLastGrids, FirstOverflowIsItsItems, EarlierPlacesAreReached}
use Rattle.wf_laws.proofs.Runs.{grids_at_more, outcome_from-Ok}

-- no item before the place overflows
pub record IsClean (r : RunData) (n : ℕ) : Type 0 where
  pub clean : (m : ℕ) → m < n → overflow_of r (get_or (script r) m no_entry) (grids_at r m) ≡ None

-- no item of a run without an overflow overflows
clean_Ok : (r : RunData) (k : ℕ) (es : List Entry) (g h : Grids) (m : ℕ) (c : Entry) → outcome_from r k es g ≡ Ok h → m < length es → overflow_of r (get_or es m c) (fold (grids_after r) g (take m es)) ≡ None
unfolding outcome_from
clean_Ok r k [] g h m c p l = absurd (omega arith)
clean_Ok r k (e ∷ es) g h zero c p l =
    (elim (overflow_of r e g) as (λ o. or_go_on o k (outcome_from r (k + 1) es (grids_after r g e)) ≡ Ok h → o ≡ None) [
      | None ↦ λ q. refl
      | Some x ↦ λ q. grind arith
    ]) p
clean_Ok r k (e ∷ es) g h (suc m) c p l =
    (elim (overflow_of r e g) as (λ o. or_go_on o k (outcome_from r (k + 1) es (grids_after r g e)) ≡ Ok h → overflow_of r (get_or es m c) (fold (grids_after r) (grids_after r g e) (take m es)) ≡ None) [
      | None ↦ λ q. clean_Ok r (k + 1) es (grids_after r g e) h m c q (omega arith)
      | Some x ↦ λ q. grind arith
    ]) p

-- the place of an overflow at once
same_place : {x : Point} {o : Overflow} {k : ℕ} → ◌≡◌ {A = Result Grids Overflow} (Err (record { place = k; point = x })) (Err o) → k ≡ o.place
same_place {x = x} {o = o} {k = k} q = let e : record { place = k; point = x } ≡ o = cc in ap (λ (y : Overflow). y.place) e

-- an overflow stands at the place of one of the items
place_from : (r : RunData) (k : ℕ) (es : List Entry) (g : Grids) (o : Overflow) → outcome_from r k es g ≡ Err o → (k ≤ o.place) × (o.place < k + length es)
unfolding outcome_from
place_from r k [] g o p = grind arith
place_from r k (e ∷ es) g o p =
    (elim (overflow_of r e g) as (λ x. or_go_on x k (outcome_from r (k + 1) es (grids_after r g e)) ≡ Err o → (k ≤ o.place) × (o.place < k + length (e ∷ es))) [
      | None ↦ λ q. let f = place_from r (k + 1) es (grids_after r g e) o q in (omega (arith, f.0), omega (arith, f.1))
      | Some x ↦ λ q. let is : k ≡ o.place = same_place q in (omega (arith, is), omega (arith, is))
    ]) p

-- no item before an overflow overflows
clean_Err : (r : RunData) (k : ℕ) (es : List Entry) (g : Grids) (o : Overflow) (m : ℕ) (c : Entry) → outcome_from r k es g ≡ Err o → k + m < o.place → overflow_of r (get_or es m c) (fold (grids_after r) g (take m es)) ≡ None
unfolding outcome_from
clean_Err r k [] g o m c p l = grind arith
clean_Err r k (e ∷ es) g o zero c p l =
    (elim (overflow_of r e g) as (λ x. or_go_on x k (outcome_from r (k + 1) es (grids_after r g e)) ≡ Err o → x ≡ None) [
      | None ↦ λ q. refl
      | Some x ↦ λ q. let is : k ≡ o.place = same_place q in absurd (omega arith)
    ]) p
clean_Err r k (e ∷ es) g o (suc m) c p l =
    (elim (overflow_of r e g) as (λ x. or_go_on x k (outcome_from r (k + 1) es (grids_after r g e)) ≡ Err o → overflow_of r (get_or es m c) (fold (grids_after r) (grids_after r g e) (take m es)) ≡ None) [
      | None ↦ λ q. clean_Err r (k + 1) es (grids_after r g e) o m c q (omega arith)
      | Some x ↦ λ q. let is : k ≡ o.place = same_place q in absurd (omega arith)
    ]) p

-- all places of a run without an overflow, and those up to the first overflow
pub clean-Ok : (r : RunData) (h : Grids) (n : ℕ) → outcome_of r ≡ Ok h → n ≤ length (script r) → IsClean r n
unfolding outcome_of grids_at
clean-Ok r h n p l = record { clean = λ m k. clean_Ok r 0 (script r) (begin_grids r) h m no_entry p (omega arith) }

-- the places up to the first overflow
pub clean-Err : (r : RunData) (o : Overflow) (n : ℕ) → outcome_of r ≡ Err o → n ≤ o.place → IsClean r n
unfolding outcome_of grids_at
clean-Err r o n p l = record { clean = λ m k. clean_Err r 0 (script r) (begin_grids r) o m no_entry p (omega arith) }

-- the first overflow stands in the script
pub place-Err : (r : RunData) (o : Overflow) → outcome_of r ≡ Err o → o.place < length (script r)
unfolding outcome_of
place-Err r o p = omega (arith, (place_from r 0 (script r) (begin_grids r) o p).1)

-- all of a list
take_all : {X : Type 0} (xs : List X) → take (length xs) xs ≡ xs
take_all [] = refl
take_all (x ∷ xs) = ap (λ (ys : List _). x ∷ ys) (take_all xs)

-- the overflow that a run names is that of the item there
point_from : (r : RunData) (k : ℕ) (es : List Entry) (g : Grids) (o : Overflow) (m : ℕ) (c : Entry) → outcome_from r k es g ≡ Err o → k + m ≡ o.place →
    overflow_of r (get_or es m c) (fold (grids_after r) g (take m es)) ≡ Some o.point
unfolding outcome_from
point_from r k [] g o m c p l = grind arith
point_from r k (e ∷ es) g o zero c p l =
    (elim (overflow_of r e g) as (λ x. or_go_on x k (outcome_from r (k + 1) es (grids_after r g e)) ≡ Err o → x ≡ Some o.point) [
      | None ↦ λ q. absurd (later (k + 1) k o.place (omega (arith, l)) (place_from r (k + 1) es (grids_after r g e) o q).0)
      | Some x ↦ λ q. same_point q
    ]) p
  where
    later : (a k b : ℕ) → (a ≡ b + 1) → a ≤ b → ⊥
    later a k b e h = omega arith

    same_point : {x : Point} {o : Overflow} {k : ℕ} → ◌≡◌ {A = Result Grids Overflow} (Err (record { place = k; point = x })) (Err o) → Some x ≡ Some o.point
    same_point {x = x} {o = o} {k = k} q = let e : record { place = k; point = x } ≡ o = cc in ap (λ (y : Overflow). Some y.point) e
point_from r k (e ∷ es) g o (suc m) c p l =
    (elim (overflow_of r e g) as (λ x. or_go_on x k (outcome_from r (k + 1) es (grids_after r g e)) ≡ Err o → overflow_of r (get_or es m c) (fold (grids_after r) (grids_after r g e) (take m es)) ≡ Some o.point) [
      | None ↦ λ q. point_from r (k + 1) es (grids_after r g e) o m c q (omega (arith, l))
      | Some x ↦ λ q. let is : k ≡ o.place = same_place q in absurd (omega arith)
    ]) p

-- a place that is not past another
not_past : (m n : ℕ) → m ≤ n → nat_lt n m ≡ false
not_past m n h = grind arith

-- and back
from_past : (m n : ℕ) → nat_lt n m ≡ false → m ≤ n
from_past m n h = grind arith

-- a place that the run comes to has only items before it that do not overflow
pub clean_up_to : (r : RunData) (n : ℕ) → IsUpToOverflow r n → IsClean r n
clean_up_to r n h =
    (elim (outcome_of r) as (λ o. outcome_of r ≡ o → stands_past n o ≡ false → IsClean r n) [
      | Ok g ↦ λ q past. clean-Ok r g n q h.within
      | Err o ↦ λ q past. clean-Err r o n q (from_past n o.place past)
    ]) refl h.before

-- each item takes the grids on
pub takes_on : ItemTakesTheGridsOn
unfolding entry_at
takes_on r n h = grids_at_more r n no_entry h

-- no item before a place that the run comes to overflows
pub none_before : NoItemBeforeOverflows
unfolding entry_at
none_before r n m up h = (clean_up_to r n up).clean m h

-- a run without an overflow ends with its last grids
pub ends_with : RunEndsWithItsLastGrids
unfolding outcome_of grids_at
ends_with r g p = (
  sym (ap (fold (grids_after r) (begin_grids r)) (take_all (script r)) ∙ outcome_from-Ok r 0 (script r) (begin_grids r) g p),
  record { within = omega arith; before = ap (stands_past (length (script r))) p },
)

-- the first overflow is that of its item
pub first_is : FirstOverflowIsItsItems
unfolding outcome_of grids_at entry_at
first_is r o p = record {
  within = place-Err r o p;
  point = point_from r 0 (script r) (begin_grids r) o o.place no_entry p (omega arith);
  reached = record { within = omega (arith, place-Err r o p); before = ap (stands_past o.place) p ∙ not_past o.place o.place (omega arith) };
}

-- a run comes to each earlier place
pub earlier : EarlierPlacesAreReached
earlier r m n h up = record {
  within = omega (arith, up.within);
  before = (elim (outcome_of r) as (λ o. stands_past n o ≡ false → stands_past m o ≡ false) [
    | Ok g ↦ λ past. refl
    | Err o ↦ λ past. not_past m o.place (omega (arith, from_past n o.place past))
  ]) up.before;
}
