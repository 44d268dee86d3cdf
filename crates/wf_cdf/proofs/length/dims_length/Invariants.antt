use Rattle.std.proofs.Common.{◌≡◌, ◌+◌, take, length}
use Rattle.std.specs.List.{flat_map}
use Rattle.wf_model.specs.Bytes.{dim_bytes}
use Rattle.wf_cdf.specs.Capped.{capped}
use Rattle.wf_cdf.proofs.length.dims_length.Given as goal

abbrev pub invariant-loop-dim : goal.invariant-loop-dim
invariant-loop-dim l = l.total ≡ capped (8 + length (flat_map dim_bytes (take l.dim-index l.dims)))
