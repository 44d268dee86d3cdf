-- A line that counts, as the definitions see it.
use Rattle.std.specs.Prelude.{◌≡◌, ◌<◌, ◌≤◌, ℕ, codes, drop, length, List, [], Option, Some, None}
use Rattle.std.specs.Prelude.{slice_get}
use Rattle.wf_model.specs.declared.registry.SourceFile.{SourceFile}
use Rattle.std.specs.Str.{bytes_eq}
use Rattle.wf_model.specs.Letters.{Text}
use Rattle.wf_model.specs.KeptLines.{Kept, kind_word, texts}
use Rattle.wf_text.specs.Rest.{rest_read}
use Rattle.wf_registry_lines.specs.FileLines.{line_at}
use Rattle.wf_registry_lines.specs.declared.KeptLine.{KeptLine}

-- the file's name
abbrev pub name_of : Option SourceFile → Text
name_of None = []
name_of (Some f) = f.name

-- the name of the file at this place, from 0
abbrev pub name_at : List SourceFile → ℕ → Text
name_at files place = name_of (slice_get files place)

abbrev pub text_of : Option SourceFile → Text
text_of None = []
text_of (Some f) = f.text

-- the text of the file at this place
abbrev pub text_at : List SourceFile → ℕ → Text
text_at files place = text_of (slice_get files place)

-- the line, with its file's name in place of its file's place, and its words read from its
-- file's text
abbrev pub kept_in : List SourceFile → KeptLine → Kept
kept_in files l = record {
  file = name_at files l.file;
  number = l.number;
  words = texts (line_at (text_at files l.file) l.from l.before);
}

-- the line is in its file's text
pub record IsThere (files : List SourceFile) (l : KeptLine) : Type 0 where
  pub file : l.file < length files
  pub within : l.from ≤ length (text_at files l.file)
  pub line : 0 < length (rest_read l.before (drop l.from (text_at files l.file))).lines

-- whether the line is a dimspec is told
abbrev pub TellsDimspec : List SourceFile → KeptLine → Type 0
TellsDimspec files l = l.dimspec ≡ bytes_eq (kind_word (kept_in files l).words) (codes "dimspec")

-- both
pub record IsPlaced (files : List SourceFile) (l : KeptLine) : Type 0 where
  pub there : IsThere files l
  pub dimspec : TellsDimspec files l
