-- A kind's word, with a place where it has one.
use Rattle.std.specs.Prelude.{ℕ, List, [], ◌∷◌, Option, Some, None}
use Rattle.wf_model.specs.Letters.{Text}
use Rattle.wf_model.specs.Refusals.{at_place}

abbrev pub words_placed : Text → Option ℕ → List Text
words_placed word None = word ∷ []
words_placed word (Some at) = at_place word at
