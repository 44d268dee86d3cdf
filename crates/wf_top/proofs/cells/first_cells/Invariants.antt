use Rattle.std.proofs.Common.{◌≡◌, ℕ, ◌+◌, ◌<◌, length, pos}
use Rattle.wf_top.specs.Cells.{cell, first_at}
use Rattle.wf_top.proofs.cells.first_cells.Given as goal

abbrev pub invariant-loop-r : goal.invariant-loop-r
invariant-loop-r l = record {
  size : length l.values ≡ length l.fn.values;
  done : (s q : ℕ) → s < l.r → q < l.width → cell l.values l.width s q ≡ pos (first_at s (l.from + q));
}
