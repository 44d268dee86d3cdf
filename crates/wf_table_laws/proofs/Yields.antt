-- What holds of a value that is read, step by step along a chain.
use Rattle.std.proofs.Common.{◌≡◌, Bool, true, false, Option, Some, None, Result, Ok, Err, refl, subst, if◌then◌else◌}
use Rattle.wf_model.specs.Reading.{◌>>=◌, or_fault, told_as}
use Rattle.wf_model.proofs.ReadingLemmas.{ok_is}

-- a value that is read has this property
pub record Yields {A F : Type 0} (Q : A → Type 0) (read : Result A F) : Type 0 where
  pub has : (x : A) → read ≡ Ok x → Q x

never : {A F : Type 0} (fault : F) (x : A) → (let read : Result A F = Err fault in read) ≡ Ok x → ⊥
never fault x e = cc

-- a value, and a fault
pub yields-ok : {A F : Type 0} (Q : A → Type 0) (x : A) → Q x → Yields {F = F} Q (Ok x)
yields-ok Q x q = record { has = λ y e. subst Q (ok_is x y e) q }

pub yields-err : {A F : Type 0} (Q : A → Type 0) (fault : F) → Yields Q (Err fault)
yields-err Q fault = record { has = λ y e. absurd (never fault y e) }

-- one reading after another
pub chain : {A B F : Type 0} {Q : A → Type 0} {S : B → Type 0} {read : Result A F} {next : A → Result B F}
    → Yields Q read → ((x : A) → Q x → Yields S (next x)) → Yields S (read >>= next)
chain {Q = Q} {S = S} {read = Ok x} {next = next} first behind = behind x (first.has x refl)
chain {Q = Q} {S = S} {read = Err fault} {next = next} first behind = yields-err S fault

-- the one or the other
pub choose : {A F : Type 0} {Q : A → Type 0} (b : Bool) {one other : Result A F}
    → (b ≡ true → Yields Q one) → (b ≡ false → Yields Q other) → Yields Q (if b then one else other)
choose true here there = here refl
choose false here there = there refl

-- a value that may be missing
pub yields-or : {A F : Type 0} (o : Option A) (fault : F) → Yields (λ x. o ≡ Some x) (or_fault o fault)
yields-or None fault = yields-err (λ x. None ≡ Some x) fault
yields-or (Some a) fault = yields-ok (λ x. Some a ≡ Some x) a refl

-- a reading that tells its fault otherwise
pub yields-told : {A F G : Type 0} {Q : A → Type 0} (tell : F → G) {read : Result A F} → Yields Q read → Yields Q (told_as tell read)
yields-told {Q = Q} tell {read = Ok x} first = yields-ok Q x (first.has x refl)
yields-told {Q = Q} tell {read = Err fault} first = yields-err Q (tell fault)

-- a weaker property
pub weaker : {A F : Type 0} {Q S : A → Type 0} {read : Result A F} → ((x : A) → Q x → S x) → Yields Q read → Yields S read
weaker f first = record { has = λ x e. f x (first.has x e) }

-- the same reading in other words
pub along : {A F : Type 0} {Q : A → Type 0} {read other : Result A F} → read ≡ other → Yields Q read → Yields Q other
along {Q = Q} same first = subst (Yields Q) same first
