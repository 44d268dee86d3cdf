use Rattle.std.proofs.Common.{◌≡◌, ◌++◌, drop}
use Rattle.wf_model.specs.NamesOf.{fields_from}
use Rattle.wf_config.proofs.table_names.fields_of.Given as goal

abbrev pub invariant-loop-entry : goal.invariant-loop-entry
invariant-loop-entry l = l.fields.items ++ fields_from l.first (drop l.entry-index l.entries) ≡ fields_from 0 l.entries
