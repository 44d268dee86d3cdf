use Rattle.std.proofs.Common.{◌≡◌, ◌++◌, flat_map}
use Rattle.std.specs.Prelude.{pos}
use Rattle.std.specs.List.{range_with_len}
use Rattle.wf_model.specs.Plans.{point_y}
use Rattle.wf_grid.specs.FileShape.{file_row}
use Rattle.wf_grid.proofs.file_shape.push_plane.Given as goal

abbrev pub invariant-loop-y : goal.invariant-loop-y
invariant-loop-y l =
    l.values.items ≡ l.fn.values.items ++ flat_map (λ j. file_row l.at.plan.now l.at.number l.at.field l.at.levels.now l.k (point_y l.at.plan.now l.at.number l.at.field (pos j))) (range_with_len 1 l.y)
