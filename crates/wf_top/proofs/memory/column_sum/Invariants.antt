use Rattle.std.proofs.Common.{◌≡◌, ◌≤◌, ◌*◌, sum_by}
use Rattle.std.specs.List.{range_with_len}
use Rattle.wf_top.specs.Cells.{size_at}
use Rattle.wf_top.proofs.memory.column_sum.Given as goal

abbrev pub invariant-loop-r : goal.invariant-loop-r
invariant-loop-r l = (l.total ≡ sum_by (λ r. size_at l.values l.width r l.c) (range_with_len 0 l.r)) × (l.total ≤ 100 * l.r)
