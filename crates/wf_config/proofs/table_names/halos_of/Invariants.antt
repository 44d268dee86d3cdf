use Rattle.std.proofs.Common.{◌≡◌, take}
use Rattle.std.specs.List.{filter_map}
use Rattle.wf_model.specs.NamesOf.{halo_of}
use Rattle.wf_config.proofs.table_names.halos_of.Given as goal

abbrev pub invariant-loop-entry : goal.invariant-loop-entry
invariant-loop-entry l = l.halos.items ≡ filter_map (halo_of l.levels) (take l.entry-index l.entries)
