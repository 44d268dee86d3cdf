use Rattle.std.proofs.Common.{◌≡◌, ◌≢◌, ℕ, ◌<◌, length, pos, get_or}
use Rattle.wf_top.specs.Cells.{cell}
use Rattle.wf_top.proofs.cells.write_column.Given as goal

abbrev pub invariant-loop-r : goal.invariant-loop-r
invariant-loop-r l = record {
  size : length l.values ≡ length l.fn.values;
  done : (s : ℕ) → s < l.r → cell l.values l.width s l.c ≡ get_or l.column s (pos 0);
  others : (s q : ℕ) → s < length l.column → q < l.width → q ≢ l.c → cell l.values l.width s q ≡ cell l.fn.values l.width s q;
}
