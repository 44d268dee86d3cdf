use Rattle.std.proofs.Common.{ℕ, ◌<◌, get_or, IsTrue, not}
use Rattle.wf_model.specs.Sizes.{is_record_dim, dim_of}
use Rattle.wf_cdf.proofs.sound.are_fixed.Given as goal

abbrev pub invariant-loop-number : goal.invariant-loop-number
invariant-loop-number l = (k d : ℕ) → k < l.number-index → IsTrue (not (is_record_dim (dim_of l.dims (get_or l.numbers k d))))
