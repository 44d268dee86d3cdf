use Rattle.std.proofs.Common.{◌≡◌, ◌++◌, take}
use Rattle.std.specs.List.{flat_map}
use Rattle.wf_model.specs.Bytes.{dim_bytes}
use Rattle.wf_cdf.proofs.header.put_dims.Given as goal

abbrev pub invariant-loop-dim : goal.invariant-loop-dim
invariant-loop-dim l = l.out.items ≡ l.initial.out.items ++ flat_map dim_bytes (take l.dim-index l.dims)
