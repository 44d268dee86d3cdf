-- A line of a file whose words are read again from its text.
use Rattle.std.specs.Prelude.{◌≡◌, ◌≤◌, ◌<◌, ℕ, Bool, true, false, List, [], ◌∷◌, drop, length}
use Rattle.wf_model.specs.declared.text.Line.{Line}
use Rattle.wf_model.specs.KeptLines.{kind_word, texts}
use Rattle.wf_text.specs.Rest.{rest_read}
use Rattle.wf_registry_lines.specs.Kinds.{kind_of}
use Rattle.wf_registry_lines.specs.declared.ahead.FileLine.{FileLine}
use Rattle.wf_registry_lines.specs.declared.kind.Kind.{Kind}
use Rattle.wf_registry_lines.specs.declared.kind.Kind.TheVariants.{Ifdef, Endif, Include, Dimspec}
use Rattle.wf_registry_lines.specs.declared.kind.Kind.TheVariants.{Other}

abbrev pub first_of : List Line → Line
first_of [] = record { number = 0; words = [] }
first_of (l ∷ ls) = l

-- the first line behind so many bytes and physical lines of a text
abbrev pub line_at : List ℕ → ℕ → ℕ → Line
line_at text from before = first_of (rest_read before (drop from text)).lines

-- the line that is held
abbrev pub held : List ℕ → FileLine → Line
held text f = line_at text f.from f.before

-- the words of lines of this kind say what is read
abbrev pub keeps_words : Kind → Bool
keeps_words Ifdef = true
keeps_words Endif = true
keeps_words Include = true
keeps_words Dimspec = false
keeps_words Other = false

-- what is held of a line is so, and the line is there
pub record IsHeld (text : List ℕ) (f : FileLine) : Type 0 where
  pub kind : f.kind ≡ kind_of (kind_word (texts (held text f)))
  pub number : f.line.number ≡ (held text f).number
  pub words : keeps_words f.kind ≡ true → f.line ≡ held text f
  pub within : f.from ≤ length text
  pub there : 0 < length (rest_read f.before (drop f.from text)).lines
