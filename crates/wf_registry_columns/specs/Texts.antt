-- The bytes of words that were made.
use Rattle.std.specs.Prelude.{ℕ, List, map}
use Rattle.std.specs.Global.{Vec}
use Rattle.wf_model.specs.Letters.{Text}

abbrev pub texts : List (Vec ℕ) → List Text
texts words = map (λ (w : Vec ℕ). w.items) words
