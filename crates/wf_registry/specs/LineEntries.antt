-- The entries of lines, whether they break a rule or not.
use Rattle.std.specs.Prelude.{nat_le, List, length, filter_map, Option, None, if◌then◌else◌}
use Rattle.wf_model.specs.declared.registry.Entry.{Entry}
use Rattle.wf_model.specs.declared.registry.SourceFile.{SourceFile}
use Rattle.wf_model.specs.Letters.{Text}
use Rattle.wf_model.specs.KeptLines.{columns}
use Rattle.wf_model.specs.Entries.{least_columns, entry_of_kind}
use Rattle.wf_registry_lines.specs.Kept.{kept_in}
use Rattle.wf_registry_lines.specs.declared.KeptLine.{KeptLine}
use Rattle.wf_registry.specs.Lines.{word_kind}

-- of these words
abbrev pub words_entry : List Text → Option Entry
words_entry words = if nat_le (least_columns (word_kind words)) (length (columns words))
    then entry_of_kind (word_kind words) (columns words) else None

-- of each line that has one, in order
abbrev pub lines_entries : List SourceFile → List KeptLine → List Entry
lines_entries files lines = filter_map (λ (l : KeptLine). words_entry (kept_in files l).words) lines
