use Rattle.std.proofs.Common.{◌≡◌, flat_map}
use Rattle.std.specs.List.{range_with_len}
use Rattle.wf_grid.specs.FileShape.{file_plane}
use Rattle.wf_grid.proofs.file_shape.file_numbers.Given as goal

abbrev pub invariant-loop-k : goal.invariant-loop-k
invariant-loop-k l = l.values.items ≡ flat_map (file_plane l.at.plan.now l.at.number l.at.field l.at.levels.now) (range_with_len 1 l.k)
