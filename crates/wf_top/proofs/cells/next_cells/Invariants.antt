use Rattle.std.proofs.Common.{◌≡◌, ℕ, ◌<◌, ◌≤◌, length}
use Rattle.wf_top.specs.Cells.{cell, next_at}
use Rattle.wf_top.proofs.cells.next_cells.Given as goal

abbrev pub invariant-loop-r : goal.invariant-loop-r
invariant-loop-r l = record {
  size : length l.next ≡ length l.values;
  done : (s c : ℕ) → s < l.r → c < l.width → cell l.next l.width s c ≡ next_at l.values l.width l.rows s c;
  rest : (s c : ℕ) → l.r ≤ s → s < l.rows → c < l.width → cell l.next l.width s c ≡ cell l.values l.width s c;
}
