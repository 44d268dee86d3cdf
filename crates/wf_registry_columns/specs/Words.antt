-- The texts of words.
use Rattle.std.specs.Prelude.{List, map}
use Rattle.wf_model.specs.Letters.{Text}
use Rattle.wf_model.specs.declared.text.Word.{Word}

-- quoted or not
abbrev pub word_texts : List Word → List Text
word_texts words = map (λ (w : Word). w.text) words
