use Rattle.std.proofs.Common.{◌≡◌, map}
use Rattle.std.specs.List.{range_with_len}
use Rattle.wf_model.specs.InputOf.{zeros}
use Rattle.wf_stream.proofs.levels.all_zeros.Given as goal

abbrev pub invariant-loop-level : goal.invariant-loop-level
invariant-loop-level l = l.grids.items ≡ map (zeros l.plan l.number) (range_with_len 0 l.level)
