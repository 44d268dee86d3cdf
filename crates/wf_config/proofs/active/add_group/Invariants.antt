use Rattle.std.proofs.Common.{◌≡◌, ◌++◌, map, take}
use Rattle.wf_model.specs.Letters.{lower}
use Rattle.wf_config.specs.Active.{pair_of}
use Rattle.wf_config.proofs.active.add_group.Given as goal

abbrev pub invariant-loop-name : goal.invariant-loop-name
invariant-loop-name l = map pair_of l.listings.items ≡ map pair_of l.fn.listings.items ++ map (λ w. (lower w.now, l.holds)) (take l.name-index l.name-items)
