use Rattle.std.proofs.Common.{◌≡◌, ◌++◌, map}
use Rattle.std.specs.Prelude.{pos}
use Rattle.std.specs.List.{range_with_len}
use Rattle.wf_model.specs.Plans.{point_x}
use Rattle.wf_grid.specs.Levels.{grids_of}
use Rattle.wf_grid.proofs.file_shape.push_row.Given as goal

abbrev pub invariant-loop-x : goal.invariant-loop-x
invariant-loop-x l =
    l.values.items ≡ l.fn.values.items ++ map (λ i. grids_of l.at.plan.now l.at.number l.at.levels.now l.at.number l.at.field l.k l.j (point_x l.at.plan.now l.at.number l.at.field (pos i))) (range_with_len 1 l.x)
