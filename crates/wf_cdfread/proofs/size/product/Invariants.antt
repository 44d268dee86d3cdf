use Rattle.std.proofs.Common.{◌≡◌, take}
use Rattle.wf_model.specs.Sizes.{product}
use Rattle.wf_cdf.specs.Capped.{capped}
use Rattle.wf_cdfread.proofs.size.product.Given as goal

abbrev pub invariant-loop-length : goal.invariant-loop-length
invariant-loop-length l = l.product ≡ capped (product (take l.length-index l.lengths))
