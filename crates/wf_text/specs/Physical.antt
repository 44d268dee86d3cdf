-- The bytes before a line feed.
use Rattle.std.specs.Prelude.{ℕ, List, [], ◌∷◌, ◌==◌, if◌then◌else◌}

-- without a carriage return (13) at their end
abbrev pub trimmed : List ℕ → List ℕ
trimmed [] = []
trimmed (x ∷ []) = if x == 13 then [] else x ∷ []
trimmed (x ∷ y ∷ ys) = x ∷ trimmed (y ∷ ys)
