-- The last byte of a text.
use Rattle.std.proofs.Common.{◌≡◌, ℕ, zero, suc, eqb, List, [], ◌∷◌, length, get_or, refl, arith}
use Rattle.wf_model.specs.Lines.{last_is}

-- the byte at the last place is the one that the test looks at
pub last_at : (c n : ℕ) (l : List ℕ) → length l ≡ suc n → eqb (get_or l n 0) c ≡ last_is c l
last_at c n [] e = absurd (omega arith)
last_at c zero (x ∷ []) e = refl
last_at c (suc n) (x ∷ []) e = absurd (omega arith)
last_at c zero (x ∷ y ∷ ys) e = absurd (omega arith)
last_at c (suc n) (x ∷ y ∷ ys) e = last_at c n (y ∷ ys) (omega arith)
