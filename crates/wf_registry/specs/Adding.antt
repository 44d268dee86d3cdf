-- Names that are added to others.
use Rattle.std.specs.Prelude.{◌≡◌, ◌||◌, List}
use Rattle.wf_model.specs.Letters.{Text, is_among}

-- the names are those that were there and those that were added
abbrev pub Adds : List Text → List Text → List Text → Type 0
Adds old new added = (w : Text) → is_among w new ≡ (is_among w old || is_among w added)
