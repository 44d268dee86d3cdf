use Rattle.std.proofs.Common.{◌≡◌, take}
use Rattle.std.specs.List.{filter_map}
use Rattle.wf_model.specs.NamesOf.{period_of}
use Rattle.wf_config.proofs.table_names.periods_of.Given as goal

abbrev pub invariant-loop-entry : goal.invariant-loop-entry
invariant-loop-entry l = l.periods.items ≡ filter_map (period_of l.levels) (take l.entry-index l.entries)
