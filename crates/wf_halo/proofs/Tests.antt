-- Tests that are made one after the other.
use Rattle.std.proofs.Common.{◌≡◌, Bool, true, false, refl, sym, ap, ◌∙◌, arith}
use Rattle.std.proofs.lemmas.Int.{ints, clamps}
use Rattle.std.specs.Int.{int_max, int_min}
use Rattle.wf_boxes.specs.Boxes.{IsNear}
use Rattle.std.specs.Prelude.{ℤ, not, ◌&&◌, ◌||◌, if◌then◌else◌}
use Rattle.wf_model.specs.Patches.{Box}

pub and_then : {a b x y : Bool} → a ≡ x → b ≡ y → a ≡ true → b ≡ (x && y)
and_then {a} {b} {x} {y} p q t = q ∙ sym (ap (λ (z : Bool). z && y) (sym p ∙ t))

pub and_not : {a x : Bool} (y : Bool) → a ≡ x → a ≡ false → a ≡ (x && y)
and_not {a} {x} y p f = f ∙ sym (ap (λ (z : Bool). z && y) (sym p ∙ f))

pub or_then : {a x : Bool} (y : Bool) → a ≡ x → a ≡ true → a ≡ (x || y)
or_then {a} {x} y p t = t ∙ sym (ap (λ (z : Bool). z || y) (sym p ∙ t))

pub or_else : {a b x y : Bool} → a ≡ x → b ≡ y → a ≡ false → b ≡ (x || y)
or_else {a} {b} {x} {y} p q f = q ∙ sym (ap (λ (z : Bool). z || y) (sym p ∙ f))

-- what a part brings, by its tests
abbrev pub brings : Bool → Bool → Bool → Bool → Bool
brings outside inside around own = if outside then not inside else inside && around && not own

pub brings_outside : (o i a w r : Bool) → o ≡ true → r ≡ not i → r ≡ brings o i a w
brings_outside true i a w r h e = e
brings_outside false i a w r h e = e ∙ absurd (no h)
  where
    no : false ≡ true → ⊥
    no h = grind arith

pub brings_none : (o i a w r : Bool) → o ≡ false → i ≡ false → r ≡ false → r ≡ brings o i a w
brings_none o i a w r p q e = e ∙ sym (λ n. brings (p n) (q n) a w)

pub brings_own : (o i a w r : Bool) → o ≡ false → w ≡ true → r ≡ false → r ≡ brings o i a w
brings_own o i a w r p q e = e ∙ sym ((λ n. brings (p n) i a (q n)) ∙ none (i && a))
  where
    none : (b : Bool) → (b && false) ≡ false
    none true = refl
    none false = refl

pub brings_around : (o i a w r : Bool) → o ≡ false → i ≡ true → w ≡ false → r ≡ a → r ≡ brings o i a w
brings_around o i a w r p q s e = e ∙ sym ((λ n. brings (p n) (q n) a (s n)) ∙ all a)
  where
    all : (b : Bool) → (true && b && not false) ≡ b
    all true = refl
    all false = refl

-- boxes with the same ends
abbrev box_by : ℤ → ℤ → ℤ → ℤ → Box
box_by a b c d = record { x = record { low = a; high = b }; y = record { low = c; high = d } }

pub same_box : {a b x y c d z w : ℤ} → a ≡ x → b ≡ y → c ≡ z → d ≡ w → box_by a b c d ≡ box_by x y z w
same_box p q r s = λ n. box_by (p n) (q n) (r n) (s n)

-- the greater and the lesser of two near numbers are near
pub near_max : (a b : ℤ) → IsNear a → IsNear b → IsNear (int_max a b)
near_max a b p q = (omega (arith, ints, clamps, p.0, p.1, q.0, q.1), omega (arith, ints, clamps, p.0, p.1, q.0, q.1))

pub near_min : (a b : ℤ) → IsNear a → IsNear b → IsNear (int_min a b)
near_min a b p q = (omega (arith, ints, clamps, p.0, p.1, q.0, q.1), omega (arith, ints, clamps, p.0, p.1, q.0, q.1))
