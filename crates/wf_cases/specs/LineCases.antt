-- Worked cases of lines and words.
use Rattle.std.specs.Prelude.{ℕ, ◌≡◌, true, false, List, [], ◌∷◌, Ok, Err, codes}
use Rattle.wf_model.specs.declared.text.Word.{Word}
use Rattle.wf_model.specs.declared.text.TextFault.TheVariants.{UnclosedQuote, DanglingBackslash}
use Rattle.wf_model.specs.Lines.{lines_of, line}
use Rattle.wf_model.specs.GenCase.{lines}

abbrev pub bare : List ℕ → ℕ → Word
bare text column = record { text = text; quoted = false; column = column }

abbrev pub quoted : List ℕ → ℕ → Word
quoted text column = record { text = text; quoted = true; column = column }

pub record LogicalLines : Type 0 where
  pub empty_text : lines_of [] ≡ Ok []
  -- a comment is cut, and lines without words are dropped
  pub comment_cut : lines_of (lines (codes "# all" ∷ codes " a  b#c" ∷ [] ∷ []))
      ≡ Ok (line 2 (bare (codes "a") 2 ∷ bare (codes "b") 5 ∷ []) ∷ [])
  -- a quoted word may be empty; a `#` inside is no comment, and a `"` inside a bare word is a byte
  -- of it
  pub quoted_words : lines_of (codes "\"a # b\"c \"\" d\"e") ≡ Ok (line 1 (quoted (codes "a # b") 1
      ∷ bare (codes "c") 8 ∷ quoted [] 10 ∷ bare (codes "d\"e") 13 ∷ []) ∷ [])
  -- the line goes on after the `\`, also with a comment behind it; columns are those of the
  -- physical line
  pub joined : lines_of (lines (codes "a\\ # more" ∷ codes "  b" ∷ codes "c" ∷ [])) ≡ Ok (line 1
      (bare (codes "a") 1 ∷ bare (codes "b") 3 ∷ []) ∷ line 3 (bare (codes "c") 1 ∷ []) ∷ [])
  -- a carriage return is dropped before a line feed alone
  pub carriage_returns : lines_of (97 ∷ 13 ∷ 10 ∷ 98 ∷ 13 ∷ [])
      ≡ Ok (line 1 (bare (97 ∷ []) 1 ∷ []) ∷ line 2 (bare (98 ∷ 13 ∷ []) 1 ∷ []) ∷ [])
  pub unclosed_quote : lines_of (lines (codes "a" ∷ codes " b \"c" ∷ codes "d\"" ∷ []))
      ≡ Err (UnclosedQuote 2 4)
  -- on the last physical line, whether a line feed ends it or not
  pub dangling_backslash : lines_of (lines (codes "a" ∷ codes "b \\" ∷ codes "c \\" ∷ []))
      ≡ Err (DanglingBackslash 3)
  pub dangling_at_the_end : lines_of (codes "a \\") ≡ Err (DanglingBackslash 1)
  -- a `\` in quotes or in a comment joins nothing
  pub quoted_backslash : lines_of (lines (codes "\"a\\\" # \\" ∷ codes "b" ∷ []))
      ≡ Ok (line 1 (quoted (codes "a\\") 1 ∷ []) ∷ line 2 (bare (codes "b") 1 ∷ []) ∷ [])
