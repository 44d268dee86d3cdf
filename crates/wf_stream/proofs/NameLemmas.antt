-- Names of input files.
use Rattle.std.proofs.Common.{◌≡◌, ap₂, ℕ, ◌+◌, ◌≤◌, [], ◌∷◌, arith}
use Rattle.wf_model.specs.Calendar.{two_digits}

-- a number below ten has 0 as its first digit
pub digits : (n ch : ℕ) → n ≤ 8 → ch ≡ 48 + n → 48 ∷ (ch ∷ []) ≡ two_digits n
digits n ch few is = ap₂ (λ (a b : ℕ). a ∷ (b ∷ [])) (omega arith) (omega arith)
