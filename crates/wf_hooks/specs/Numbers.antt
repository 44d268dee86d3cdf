-- Numbers that a stored function may be called on.
use Rattle.std.specs.Prelude.{◌≡◌, true, All, List, ℤ}
use Rattle.wf_model.specs.Numbers.{fits_i64}

-- numbers of which each fits 64 bits with a sign
abbrev pub AreI64 : List ℤ → Type 0
AreI64 zs = All (λ z. fits_i64 z ≡ true) zs
