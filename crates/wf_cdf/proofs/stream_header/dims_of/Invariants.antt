use Rattle.std.proofs.Common.{◌≡◌, ◌+◌, ◌*◌, ◌≤◌, length, take}
use Rattle.wf_cdf.specs.StreamLevels.{dims_of_levels}
use Rattle.wf_cdf.proofs.stream_header.dims_of.Given as goal

abbrev pub invariant-loop-level : goal.invariant-loop-level
invariant-loop-level l = record {
  dims : l.dims.items ≡ dims_of_levels l.plan l.domain (take l.level-index l.levels);
  few : length l.dims.items ≤ 2 + 3 * l.level-index;
}
