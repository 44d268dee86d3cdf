use Rattle.std.proofs.Common.{◌≡◌, ℕ, ◌<◌, get_or}
use Rattle.wf_model.specs.Sizes.{dim_of}
use Rattle.wf_cdfread.proofs.size.have_lengths.Given as goal

abbrev pub invariant-loop-i : goal.invariant-loop-i
invariant-loop-i l = (k : ℕ) → k < l.i → (dim_of l.dims (get_or l.numbers k 0)).len ≡ get_or l.wanted k 0
