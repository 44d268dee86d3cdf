use Rattle.std.proofs.Common.{arith, sym, ap, ◌∙◌, ℕ, ◌+◌, sum_by}
use Rattle.std.specs.List.{range_with_len}
use Rattle.wf_top.specs.Cells.{size_at}
use Rattle.wf_top.proofs.RangeLaws.{sum_more}
use Rattle.wf_top.proofs.memory.cell_sum.Goals as goal

pub loop-c-preserved : goal.loop-c-preserved
loop-c-preserved c =
    let f : ℕ → ℕ = λ i. sum_by (λ r. size_at c.args.values.now c.args.width r i) (range_with_len 0 c.args.rows) in
    let n = c.loop-c.c in
    (ap (λ t. t + c.column_sum-total.result) c.loop-c.invariant.0 ∙ ap (λ t. sum_by f (range_with_len 0 n) + t) c.column_sum-total.ensures.value ∙ sym (sum_more f n), omega (arith, c.column_sum-total.ensures.bound))
