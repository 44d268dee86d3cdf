use Rattle.std.proofs.Common.{◌≡◌, map, take}
use Rattle.wf_model.specs.declared.plan.HaloPart.{HaloPart}
use Rattle.wf_model.specs.Reads.{greatest}
use Rattle.wf_margin.proofs.margins.halo_margin.Given as goal

abbrev pub invariant-loop-part : goal.invariant-loop-part
invariant-loop-part l = l.most ≡ greatest (map (λ (p : HaloPart). p.radius) (take l.part-index l.parts))
