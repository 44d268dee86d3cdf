-- The lines of a loop, and their words.
use Rattle.std.proofs.Common.{◌≡◌, ◌∙◌, ap, false, ℕ, ◌<◌, List, length, get_or}
use Rattle.std.specs.List.{All}
use Rattle.std.proofs.lemmas.List.Elements.{All-get_or}
use Rattle.wf_model.specs.declared.registry.SourceFile.{SourceFile}
use Rattle.wf_model.specs.declared.text.Word.{Word}
use Rattle.wf_registry_columns.specs.Words.{word_texts}
use Rattle.wf_registry_lines.specs.FileLines.{line_at}
use Rattle.wf_registry_lines.specs.Kept.{IsThere, kept_in, text_at}
use Rattle.wf_registry_lines.specs.declared.KeptLine.{KeptLine}

-- what stands behind the last line
abbrev pub no_line : KeptLine
no_line = record { file = 0; number = 0; from = 0; before = 0; dimspec = false }

pub line_there : (files : List SourceFile) (lines : List KeptLine) (i : ℕ) → i < length lines → All (IsThere files) lines → IsThere files (get_or lines i no_line)
line_there files lines i within all = All-get_or (IsThere files) lines i no_line within all

pub line_within : (files : List SourceFile) (lines : List KeptLine) (i : ℕ) → i < length lines → All (IsThere files) lines → (get_or lines i no_line).file < length files
line_within files lines i within all = (line_there files lines i within all).file

-- the words of a line, read again, are those that it has
pub words_read : (files : List SourceFile) (l : KeptLine) (slice words : List Word) → slice ≡ words → words ≡ (line_at (text_at files l.file) l.from l.before).words → word_texts slice ≡ (kept_in files l).words
words_read files l slice words lent read = ap word_texts (lent ∙ read)
