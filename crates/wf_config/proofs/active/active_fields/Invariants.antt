use Rattle.std.proofs.Common.{◌≡◌, map, take}
use Rattle.std.specs.List.{filter}
use Rattle.wf_config.specs.Active.{is_active_in, pair_of}
use Rattle.wf_config.proofs.active.active_fields.Given as goal

abbrev pub invariant-loop-entry : goal.invariant-loop-entry
invariant-loop-entry l = l.fields.items ≡ filter (is_active_in (map pair_of l.listings)) (take l.entry-index l.entries)
