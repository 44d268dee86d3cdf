use Rattle.std.proofs.Common.{◌≡◌, ◌≢◌, ℕ, ◌<◌, ◌≤◌, length, pos}
use Rattle.wf_top.specs.Cells.{cell, mean_at}
use Rattle.wf_top.proofs.cells.next_row.Given as goal

abbrev pub invariant-loop-c : goal.invariant-loop-c
invariant-loop-c l = record {
  size : length l.next ≡ length l.values;
  done : (q : ℕ) → 0 < q → q < l.c → cell l.next l.width l.r q ≡ pos (mean_at l.values l.width l.r q);
  rest : (q : ℕ) → l.c ≤ q → q < l.width → cell l.next l.width l.r q ≡ cell l.fn.next l.width l.r q;
  first : cell l.next l.width l.r 0 ≡ cell l.fn.next l.width l.r 0;
  others : (s q : ℕ) → q < l.width → s ≢ l.r → cell l.next l.width s q ≡ cell l.fn.next l.width s q;
}
