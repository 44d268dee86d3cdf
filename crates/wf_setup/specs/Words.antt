-- Words of a line, lent.
use Rattle.std.specs.Prelude.{List, map}
use Rattle.std.specs.Borrow.{Bor}
use Rattle.wf_model.specs.Letters.{Text}

-- the words that some loans are of
abbrev pub texts_of : List (Bor Text) → List Text
texts_of words = map (λ (w : Bor Text). w.now) words
