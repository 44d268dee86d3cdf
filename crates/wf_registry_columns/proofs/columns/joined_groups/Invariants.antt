use Rattle.std.proofs.Common.{◌≡◌, take}
use Rattle.std.specs.List.{concat}
use Rattle.wf_registry_columns.specs.Words.{word_texts}
use Rattle.wf_registry_columns.proofs.columns.joined_groups.Given as goal

abbrev pub invariant-loop-word : goal.invariant-loop-word
invariant-loop-word l = l.groups.items ≡ concat (word_texts (take l.word-index l.tail))
