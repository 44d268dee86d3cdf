use Rattle.std.proofs.Common.{◌≡◌, ◌*◌, ◌≤◌, ◌+ℤ◌, map, pos, fold, sum_by}
use Rattle.std.specs.List.{range_with_len}
use Rattle.wf_model.specs.declared.demo.Demo.{Demo}
use Rattle.wf_model.specs.Demo.{demo_memory}
use Rattle.wf_top.specs.Domains.{IsEnd}
use Rattle.wf_top.proofs.memory.total.Given as goal

abbrev pub invariant-loop-p : goal.invariant-loop-p
invariant-loop-p l = record {
  cells : (d : Demo) → IsEnd d l.patches → l.total.cells ≡ sum_by (λ m. m.cells) (map (demo_memory d) (range_with_len 0 l.p));
  sum : (d : Demo) → IsEnd d l.patches → pos l.total.sum ≡ fold (λ a m. a +ℤ m.sum) (pos 0) (map (demo_memory d) (range_with_len 0 l.p));
  few_cells : l.total.cells ≤ 40400 * l.p;
  small_sum : l.total.sum ≤ 4040000 * l.p;
}
