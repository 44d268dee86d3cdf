use Rattle.std.proofs.Common.{◌≡◌, ◌++◌, map, take}
use Rattle.std.specs.List.{flat_map}
use Rattle.wf_config.specs.Active.{group_listings, pair_of}
use Rattle.wf_config.proofs.active.add_listings.Given as goal

abbrev pub invariant-loop-group : goal.invariant-loop-group
invariant-loop-group l = map pair_of l.made.items ≡ map pair_of l.fn.made.items ++ flat_map (λ g. group_listings l.holds g.now) (take l.group-index l.group-items)
