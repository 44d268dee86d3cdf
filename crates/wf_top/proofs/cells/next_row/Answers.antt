use Rattle.std.proofs.Common.{arith, ap, ◌∙◌, ◌≡◌, ◌+◌, ◌*◌, ◌<◌, length, length-set, slice_set, below_more, pos, to_z}
use Rattle.std.specs.Int.{w32}
use Rattle.wf_top.specs.Cells.{cell, mean_at}
use Rattle.wf_top.proofs.CellLaws.{place_within, cell-set_same, cell-set_other, signed_small}
use Rattle.wf_top.proofs.cells.next_row.Goals as goal

pub loop-c-preserved : goal.loop-c-preserved
loop-c-preserved c =
    let w = c.args.width in
    let r = c.args.r in
    let k = c.loop-c.c in
    let v = c.mean_at.result in
    let old = c.loop-c.next in
    let here : k < w = omega arith in
    let in_row : r * w + k < length old = omega (arith, place_within w r k (r + 2) (omega arith) here) in
    record {
      size = length-set old _ _ ∙ c.loop-c.invariant.size;
      done = λ q p h. below_more (λ q. 0 < q → cell (slice_set old (r * w + k) (to_z w32 v)) w r q ≡ pos (mean_at c.args.values.now w r q)) k
          (λ q h p. cell-set_other old w r k r q (to_z w32 v) here (omega arith) (λ _ e. omega arith) ∙ c.loop-c.invariant.done q p h)
          (λ p. cell-set_same old w r k (to_z w32 v) in_row ∙ signed_small v c.mean_at.ensures.small ∙ ap pos c.mean_at.ensures.value) q h p;
      rest = λ q h p. cell-set_other old w r k r q (to_z w32 v) here p (λ _ e. omega arith) ∙ c.loop-c.invariant.rest q (omega arith) p;
      first = cell-set_other old w r k r 0 (to_z w32 v) here (omega arith) (λ _ e. omega (arith, c.loop-c.auto.c)) ∙ c.loop-c.invariant.first;
      others = λ s q h ne. cell-set_other old w r k s q (to_z w32 v) here h (λ e _. ne e) ∙ c.loop-c.invariant.others s q h ne;
    }
