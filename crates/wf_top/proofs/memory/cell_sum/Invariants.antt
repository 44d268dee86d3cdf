use Rattle.std.proofs.Common.{◌≡◌, ◌≤◌, ◌*◌, sum_by}
use Rattle.std.specs.List.{range_with_len}
use Rattle.wf_top.specs.Cells.{size_at}
use Rattle.wf_top.proofs.memory.cell_sum.Given as goal

abbrev pub invariant-loop-c : goal.invariant-loop-c
invariant-loop-c l =
    (l.total ≡ sum_by (λ c. sum_by (λ r. size_at l.values l.width r c) (range_with_len 0 l.rows)) (range_with_len 0 l.c)) × (l.total ≤ 20000 * l.c)
