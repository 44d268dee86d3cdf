use Rattle.std.proofs.Common.{arith, sym, ap, ◌∙◌, ◌+◌, ◌+ℤ◌, [], ◌∷◌, ℤ, pos, map, fold, sum_by}
use Rattle.std.specs.List.{range_with_len}
use Rattle.std.proofs.lemmas.List.Sums.{fold-append}
use Rattle.std.proofs.lemmas.List.FromFn.{map-range_with_len_more, sum_by-map-range_with_len_more}
use Rattle.wf_model.specs.Lockstep.{MemoryLine}
use Rattle.wf_model.specs.Demo.{demo_memory}
use Rattle.wf_top.proofs.memory.total.Goals as goal

pub loop-p-preserved : goal.loop-p-preserved
loop-p-preserved c =
    let n = c.loop-p.p in
    let memory = c.memory-memory.result in
    record {
      cells = λ d e.
          ap (λ k. k + memory.cells) (c.loop-p.invariant.cells d e)
          ∙ ap (λ k. sum_by (λ (m : MemoryLine). m.cells) (map (demo_memory d) (range_with_len 0 n)) + k) (sym (ap (λ (m : MemoryLine). m.cells) (c.memory-memory.ensures.memory d e)))
          ∙ sym (sum_by-map-range_with_len_more (λ (m : MemoryLine). m.cells) (demo_memory d) 0 n n (omega arith));
      sum = λ d e.
          let step : ℤ → MemoryLine → ℤ = λ a m. a +ℤ m.sum in
          let ms = map (demo_memory d) (range_with_len 0 n) in
          ap (λ z. z +ℤ pos memory.sum) (c.loop-p.invariant.sum d e)
          ∙ ap (λ z. fold step (pos 0) ms +ℤ z) (sym (ap (λ (m : MemoryLine). m.sum) (c.memory-memory.ensures.memory d e)))
          ∙ sym (fold-append step (pos 0) ms (demo_memory d n ∷ []))
          ∙ ap (fold step (pos 0)) (sym (map-range_with_len_more (demo_memory d) 0 n n (omega arith)));
      few_cells = omega (arith, c.loop-p.invariant.few_cells, c.memory-memory.ensures.bound);
      small_sum = omega (arith, c.loop-p.invariant.small_sum, c.memory-memory.ensures.bound);
    }
