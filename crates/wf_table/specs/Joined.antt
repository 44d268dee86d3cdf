-- Words joined by blanks (32).
use Rattle.std.specs.Prelude.{ℕ, zero, suc, ◌∷◌}
use Rattle.wf_model.specs.Letters.{Text}

-- the word of this place, with the blank before it
abbrev pub behind_blank : ℕ → Text → Text
behind_blank zero word = word
behind_blank (suc place) word = 32 ∷ word
