use Rattle.std.proofs.Common.{arith, ◌∙◌, ◌+◌, ◌*◌, ◌<◌, length, length-set, below_more, to_z}
use Rattle.std.specs.Int.{w32}
use Rattle.wf_top.specs.Cells.{first_at}
use Rattle.wf_top.proofs.CellLaws.{place_within, cell-set_same, cell-set_other, signed_small}
use Rattle.wf_top.proofs.cells.first_row.Goals as goal

pub loop-c-preserved : goal.loop-c-preserved
loop-c-preserved c =
    let w = c.args.width in
    let v = first_at c.args.r (c.args.from + c.loop-c.c) in
    let small : v < 100 = omega arith in
    let in_row : c.args.r * w + c.loop-c.c < length c.loop-c.values = omega (arith, place_within w c.args.r c.loop-c.c (c.args.r + 1) (omega arith) c.loop-c-test.true) in
    record {
      size = length-set c.loop-c.values _ _ ∙ c.loop-c.invariant.size;
      done = below_more _ _
          (λ q h. cell-set_other c.loop-c.values w c.args.r c.loop-c.c c.args.r q (to_z w32 v) c.loop-c-test.true (omega arith) (λ _ e. omega arith) ∙ c.loop-c.invariant.done q h)
          (cell-set_same c.loop-c.values w c.args.r c.loop-c.c (to_z w32 v) in_row ∙ signed_small v small);
      others = λ s q h ne. cell-set_other c.loop-c.values w c.args.r c.loop-c.c s q (to_z w32 v) c.loop-c-test.true h (λ e _. ne e) ∙ c.loop-c.invariant.others s q h ne;
    }
