use Rattle.std.proofs.Common.{◌≡◌, take}
use Rattle.std.specs.List.{filter}
use Rattle.wf_config.specs.Active.{is_of_sort}
use Rattle.wf_config.proofs.active.entries_of_sort.Given as goal

abbrev pub invariant-loop-entry : goal.invariant-loop-entry
invariant-loop-entry l = l.kept.items ≡ filter (is_of_sort l.sort) (take l.entry-index l.entries)
