-- The names that a field declares.
use Rattle.std.specs.Prelude.{◌≡◌, List}
use Rattle.wf_model.specs.Letters.{Text}
use Rattle.wf_model.specs.Entries.{column, level_names, variable_of, variables_of}
use Rattle.wf_model.specs.Judging.{symbol_of}

-- by its columns
pub record AreNamesOf (symbol_word : Text) (level_words : List Text) (variable_word : Text)
    (variable_words : List Text) (cols : List Text) : Type 0 where
  pub symbol : symbol_word ≡ symbol_of cols
  pub levels : level_words ≡ level_names (symbol_of cols) (column cols 4)
  pub variable : variable_word ≡ variable_of (symbol_of cols) (column cols 7)
  pub variables : variable_words ≡ variables_of (symbol_of cols) (column cols 4) (column cols 7)
