use Rattle.std.proofs.Common.{◌≡◌, ◌++◌, take}
use Rattle.std.specs.List.{flat_map}
use Rattle.wf_model.specs.Bytes.{four_bytes}
use Rattle.wf_cdf.proofs.header.put_shape.Given as goal

abbrev pub invariant-loop-number : goal.invariant-loop-number
invariant-loop-number l = l.out.items ≡ l.initial.out.items ++ flat_map four_bytes (take l.number-index l.numbers)
