use Rattle.std.proofs.Common.{◌≡◌, take}
use Rattle.std.specs.List.{flat_map}
use Rattle.wf_model.specs.NamesOf.{levels_in}
use Rattle.wf_config.proofs.table_names.levels_of.Given as goal

abbrev pub invariant-loop-entry : goal.invariant-loop-entry
invariant-loop-entry l = l.levels.items ≡ flat_map levels_in (take l.entry-index l.fields)
