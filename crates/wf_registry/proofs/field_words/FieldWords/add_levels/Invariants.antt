use Rattle.wf_registry_columns.specs.Texts.{texts}
use Rattle.wf_registry.specs.Adding.{Adds}
use Rattle.wf_registry.specs.Indexing.{SameNames}
use Rattle.wf_registry.proofs.field_words.FieldWords.add_levels.Given as goal

abbrev pub invariant-loop-name : goal.invariant-loop-name
invariant-loop-name l = SameNames l.fn.self.symbols l.self.symbols × Adds l.fn.self.levels l.self.levels (texts l.yielded)
