use Rattle.std.proofs.Common.{arith, sym, ap, ◌∙◌, ◌≡◌, ℕ, ◌+◌, sum_by}
use Rattle.std.specs.List.{range_with_len}
use Rattle.wf_top.specs.Cells.{size_at}
use Rattle.wf_top.proofs.RangeLaws.{sum_more}
use Rattle.wf_top.proofs.memory.column_sum.Goals as goal

pub loop-r-preserved : goal.loop-r-preserved
loop-r-preserved c =
    let f : ℕ → ℕ = λ r. size_at c.args.values.now c.args.width r c.args.c in
    let n = c.loop-r.r in
    let same : c.from-total.result ≡ f n = c.from-total.ensures ∙ c.size_at.ensures in
    (ap (λ t. t + c.from-total.result) c.loop-r.invariant.0 ∙ ap (λ t. sum_by f (range_with_len 0 n) + t) same ∙ sym (sum_more f n), omega (arith, same, c.requires.small n c.args.c c.loop-r-test.true c.requires.place))
