use Rattle.std.proofs.Common.{◌≡◌}
use Rattle.std.specs.List.{filter, range_with_len}
use Rattle.wf_model.specs.Streams.{is_in_stream}
use Rattle.wf_cdf.proofs.stream_header.stream_levels.Given as goal

abbrev pub invariant-loop-level : goal.invariant-loop-level
invariant-loop-level l = l.levels.items ≡ filter (is_in_stream l.plan l.stream) (range_with_len 0 l.level)
