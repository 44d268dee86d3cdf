-- Tests that find no fault, and texts that are compared.
use Rattle.std.proofs.Common.{◌≡◌, ◌⊎◌, inl, inr, ⊎_elim, Bool, true, false, List, [], ◌∷◌, Option, Some, None, refl, sym}
use Rattle.std.specs.Str.{bytes_eq}
use Rattle.std.proofs.lemmas.Slice.Eq.{bytes_eq-Decides}
use Rattle.std.proofs.lemmas.Bool.{false_from_ne_true, both_ways, or_cases}
use Rattle.wf_model.specs.Reading.{fault_if, fault_unless, first_fault}
use Rattle.wf_model.specs.Letters.{Text, is_among}

-- ---- faults

-- none of these tests finds a fault
abbrev pub NoFaults : {F : Type 0} → List (Option F) → Type 0
NoFaults [] = Unit {0}
NoFaults (f ∷ fs) = (f ≡ None) × NoFaults fs

pub or_none : {F : Type 0} (f : Option F) (fs : List (Option F)) → first_fault (f ∷ fs) ≡ None → (f ≡ None) × (first_fault fs ≡ None)
or_none None fs e = (refl, e)
or_none (Some f) fs e = cc

pub no_faults : {F : Type 0} (fs : List (Option F)) → first_fault fs ≡ None → NoFaults fs
no_faults [] e = tt
no_faults (f ∷ fs) e = let parts = or_none f fs e in (parts.0, no_faults fs parts.1)

pub unless_passes : {F : Type 0} (test : Bool) (k : F) → fault_unless test k ≡ None → test ≡ true
unless_passes true k e = refl
unless_passes false k e = cc

pub if_fails : {F : Type 0} (test : Bool) (k : F) → fault_if test k ≡ None → test ≡ false
if_fails false k e = refl
if_fails true k e = cc

-- ---- texts

pub same_text : (xs ys : Text) → bytes_eq xs ys ≡ true → xs ≡ ys
same_text xs ys e = (bytes_eq-Decides xs ys).0 e

pub other_text : (xs ys : Text) → (xs ≡ ys → ⊥) → bytes_eq xs ys ≡ false
other_text xs ys h = false_from_ne_true (bytes_eq xs ys) (λ e. h (same_text xs ys e))

pub flipped : (xs ys : Text) → bytes_eq xs ys ≡ false → bytes_eq ys xs ≡ false
flipped xs ys e = other_text ys xs (λ same. both_ways (bytes_eq xs ys) e ((bytes_eq-Decides xs ys).1 (sym same)))

-- one of some words is the first or one of the others
pub among : (word w : Text) (ws : List Text) → is_among word (w ∷ ws) ≡ true → (word ≡ w) ⊎ (is_among word ws ≡ true)
among word w ws e = ⊎_elim (λ h. inl (same_text word w h)) (λ h. inr h) (or_cases (bytes_eq word w) (is_among word ws) e)
