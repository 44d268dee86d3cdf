use Rattle.std.proofs.Common.{◌≡◌, ◌≢◌, ℕ, ◌+◌, ◌<◌, length, pos}
use Rattle.wf_top.specs.Cells.{cell, first_at}
use Rattle.wf_top.proofs.cells.first_row.Given as goal

abbrev pub invariant-loop-c : goal.invariant-loop-c
invariant-loop-c l = record {
  size : length l.values ≡ length l.fn.values;
  done : (q : ℕ) → q < l.c → cell l.values l.width l.r q ≡ pos (first_at l.r (l.from + q));
  others : (s q : ℕ) → q < l.width → s ≢ l.r → cell l.values l.width s q ≡ cell l.fn.values l.width s q;
}
