-- Words compared byte by byte.
use Rattle.std.proofs.Common.{◌≡◌, ℕ, ◌&&◌, List, [], ◌∷◌, refl, ap₂, arith}
use Rattle.std.specs.Prelude.{nat_eq}
use Rattle.std.specs.Str.{bytes_eq}

nat_eq-sym : (a b : ℕ) → nat_eq a b ≡ nat_eq b a
nat_eq-sym a b = grind arith

-- bytes are compared in either order
pub bytes_eq_symmetric : (a b : List ℕ) → bytes_eq a b ≡ bytes_eq b a
bytes_eq_symmetric [] [] = refl
bytes_eq_symmetric [] (y ∷ ys) = refl
bytes_eq_symmetric (x ∷ xs) [] = refl
bytes_eq_symmetric (x ∷ xs) (y ∷ ys) = ap₂ ◌&&◌ (nat_eq-sym x y) (bytes_eq_symmetric xs ys)
