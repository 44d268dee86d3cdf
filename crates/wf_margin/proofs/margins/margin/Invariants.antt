use Rattle.std.proofs.Common.{◌≡◌, map, take}
use Rattle.wf_model.specs.Reads.{greatest, item_margin}
use Rattle.wf_margin.proofs.margins.margin.Given as goal

abbrev pub invariant-loop-item : goal.invariant-loop-item
invariant-loop-item l = l.most ≡ greatest (map item_margin (take l.item-index l.item-items))
