use Rattle.std.proofs.Common.{◌≡◌, ◌-◌, eqb, true}
use Rattle.wf_model.specs.CdfRead.{dim_numbers}
use Rattle.wf_cdfread.proofs.Turns.{with_front}
use Rattle.wf_cdfread.proofs.part.dim_numbers.Given as goal

abbrev pub invariant-loop-i : goal.invariant-loop-i
invariant-loop-i l =
    with_front l.numbers.items (dim_numbers l.dims (eqb l.i 0) (l.rank - l.i) l.bytes l.next) ≡ dim_numbers l.dims true l.rank l.bytes l.fn.at
