-- What is found in a list, and tests.
use Rattle.std.proofs.Common.{◌≡◌, ℕ, suc, ◌<◌, Bool, true, false, cond, List, [], ◌∷◌, length, get_or, Option, Some, None, refl, sym, ap, ◌∙◌, arith}
use Rattle.std.specs.Prelude.{find, ◌==◌}

pub differ : (let b : Bool = true in b) ≡ false → ⊥
differ e = cc

-- numbers that the test takes for equal
pub equal_of : (m n : ℕ) → (m == n) ≡ true → m ≡ n
equal_of m n e = grind arith

none : {X : Type 0} (x : X) → (let o : Option X = None in o) ≡ Some x → ⊥
none x e = cc

same : {X : Type 0} (x y : X) → (let o : Option X = Some x in o) ≡ Some y → x ≡ y
same x y e = cc

-- x stands at a place in the list, and passes
abbrev pub IsFoundAt : {X : Type 0} → (X → Bool) → List X → X → Type 0
IsFoundAt p xs x = (k : ℕ) × (k < length xs) × (get_or xs k x ≡ x) × (p x ≡ true)

-- what is found stands there
pub find-Some : {X : Type 0} (p : X → Bool) (xs : List X) (x : X) → find p xs ≡ Some x → IsFoundAt p xs x
find-Some p [] x e = absurd (none x e)
find-Some p (y ∷ xs) x e = step (p y) refl e (find-Some p xs x)
  where
    step : (b : Bool) → p y ≡ b → cond b (Some y) (find p xs) ≡ Some x → (find p xs ≡ Some x → IsFoundAt p xs x) → IsFoundAt p (y ∷ xs) x
    step true is e rest = let here : y ≡ x = same y x e in (0, omega arith, here, ap p (sym here) ∙ is)
    step false is e rest = let r = rest e in (suc r.0, omega (arith, r.1), r.2, r.3)
