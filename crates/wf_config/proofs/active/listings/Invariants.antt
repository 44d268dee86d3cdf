use Rattle.std.proofs.Common.{◌≡◌, map, take}
use Rattle.std.specs.List.{flat_map}
use Rattle.wf_config.specs.Active.{listings, pair_of}
use Rattle.wf_config.proofs.active.listings.Given as goal

abbrev pub invariant-loop-entry : goal.invariant-loop-entry
invariant-loop-entry l = map pair_of l.made.items ≡ flat_map (listings l.values) (take l.entry-index l.entries)
