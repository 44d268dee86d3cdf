-- Names of which one is taken.
use Rattle.std.proofs.Common.{◌≡◌, ap, refl, ℕ, List, [], ◌∷◌}
use Rattle.std.specs.Prelude.{◌||◌, flat_map}
use Rattle.std.specs.Global.{Vec}
use Rattle.std.specs.List.{list_any}
use Rattle.std.specs.Str.{bytes_eq}
use Rattle.std.proofs.lemmas.List.Folds.{list_any-append}
use Rattle.wf_model.specs.declared.registry.Entry.{Entry}
use Rattle.wf_model.specs.Letters.{Text, is_among, share}
use Rattle.wf_model.specs.Entries.{entry_levels, entry_symbol}
use Rattle.wf_model.specs.Judging.{taken_names}
use Rattle.wf_registry_columns.specs.Texts.{texts}

pub shares : (words : List (Vec ℕ)) (others : List Text) → share (texts words) others ≡ list_any (λ (w : Vec ℕ). is_among w.items others) words
shares [] others = refl
shares (w ∷ ws) others = ap (λ b. is_among w.items others || b) (shares ws others)

pub taken_is : (w : Text) (es : List Entry) → is_among w (taken_names es) ≡ (is_among w (flat_map entry_symbol es) || is_among w (flat_map entry_levels es))
taken_is w es = list_any-append (bytes_eq w) (flat_map entry_symbol es) (flat_map entry_levels es)
