-- The first place at which a test passes, as it is found.
use Rattle.std.proofs.Common.{◌≡◌, ℕ, ◌<◌, Bool, List, length, Some, None, position, arith}
use Rattle.std.specs.Prelude.{not}
use Rattle.std.specs.List.{position_or_len}
use Rattle.std.proofs.lemmas.List.Sums.{prefix_len-le-length}

pub found : {X : Type 0} (p : X → Bool) (xs : List X) (k : ℕ) → position p xs ≡ Some k → (position_or_len p xs ≡ k) × (k < length xs)
found p xs k is = grind arith

pub not_found : {X : Type 0} (p : X → Bool) (xs : List X) → position p xs ≡ None → position_or_len p xs ≡ length xs
not_found p xs is = let most = prefix_len-le-length (λ x. not (p x)) xs in grind (arith, most)
