use Rattle.std.proofs.Common.{◌≡◌, ℕ, ◌<◌, length, pos, get_or}
use Rattle.wf_top.specs.Cells.{cell}
use Rattle.wf_top.proofs.cells.read_column.Given as goal

abbrev pub invariant-loop-r : goal.invariant-loop-r
invariant-loop-r l = record {
  size : length l.column ≡ length l.fn.column;
  done : (s : ℕ) → s < l.r → get_or l.column s (pos 0) ≡ cell l.values l.width s l.c;
}
