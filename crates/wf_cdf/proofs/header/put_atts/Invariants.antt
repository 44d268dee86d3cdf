use Rattle.std.proofs.Common.{◌≡◌, ◌++◌, take}
use Rattle.std.specs.List.{flat_map}
use Rattle.wf_model.specs.Bytes.{att_bytes}
use Rattle.wf_cdf.proofs.header.put_atts.Given as goal

abbrev pub invariant-loop-att : goal.invariant-loop-att
invariant-loop-att l = l.out.items ≡ l.initial.out.items ++ flat_map att_bytes (take l.att-index l.atts)
