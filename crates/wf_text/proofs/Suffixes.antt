-- What is left of a list behind some of its items.
use Rattle.std.proofs.Common.{◌≡◌, ◌∙◌, ◌+◌, ◌-◌, ℕ, List, length, drop, ap, arith}

-- the items that are left say how many were dropped
pub suffix : (k : ℕ) (rest text : List ℕ) → rest ≡ drop k text → length rest + k ≡ length text → rest ≡ drop (length text - length rest) text
suffix k rest text e n =
    let m : k ≡ length text - length rest = omega (arith, n) in
    e ∙ ap (λ j. drop j text) m
