use Rattle.std.proofs.Common.{◌≡◌, map}
use Rattle.std.specs.List.{range_with_len}
use Rattle.wf_stream.specs.Levels.{level_begin}
use Rattle.wf_stream.proofs.levels.grids_read.Given as goal

abbrev pub invariant-loop-level : goal.invariant-loop-level
invariant-loop-level l = l.grids.items ≡ map (level_begin l.plan l.number l.bytes l.header) (range_with_len 0 l.level)
