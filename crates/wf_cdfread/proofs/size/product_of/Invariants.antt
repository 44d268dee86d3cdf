use Rattle.std.proofs.Common.{◌≡◌, take}
use Rattle.wf_model.specs.Sizes.{product, lengths}
use Rattle.wf_cdf.specs.Capped.{capped}
use Rattle.wf_cdfread.proofs.size.product_of.Given as goal

abbrev pub invariant-loop-number : goal.invariant-loop-number
invariant-loop-number l = l.product ≡ capped (product (lengths l.dims (take l.number-index l.numbers)))
