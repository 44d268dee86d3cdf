use Rattle.std.proofs.Common.{arith, ◌∙◌, ◌≡◌, ◌+◌, ◌*◌, ◌<◌, length, length-set, below_more, get_or, pos, to_z, of_z}
use Rattle.std.specs.Int.{w32}
use Rattle.std.proofs.lemmas.Int.{ints, to_z-of_z}
use Rattle.wf_top.proofs.CellLaws.{place_within, cell-set_same, cell-set_other}
use Rattle.wf_top.proofs.cells.write_column.Goals as goal

pub loop-r-preserved : goal.loop-r-preserved
loop-r-preserved c =
    let w = c.args.width in
    let r = c.loop-r.r in
    let old = c.loop-r.values in
    let z = to_z w32 (of_z w32 (get_or c.args.column.now r (pos 0))) in
    let whole : z ≡ get_or c.args.column.now r (pos 0) = grind (arith, ints, to_z-of_z) in
    let in_row : r * w + c.args.c < length old = omega (arith, place_within w r c.args.c (length c.args.column.now) c.loop-r-test.true c.requires.place) in
    record {
      size = length-set old _ _ ∙ c.loop-r.invariant.size;
      done = below_more _ _
          (λ s h. cell-set_other old w r c.args.c s c.args.c z c.requires.place c.requires.place (λ e _. omega arith) ∙ c.loop-r.invariant.done s h)
          (cell-set_same old w r c.args.c z in_row ∙ whole);
      others = λ s q hs hq ne. cell-set_other old w r c.args.c s q z c.requires.place hq (λ _ e. ne e) ∙ c.loop-r.invariant.others s q hs hq ne;
    }
