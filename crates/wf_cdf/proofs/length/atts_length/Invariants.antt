use Rattle.std.proofs.Common.{◌≡◌, ◌+◌, take, length}
use Rattle.std.specs.List.{flat_map}
use Rattle.wf_model.specs.Bytes.{att_bytes}
use Rattle.wf_cdf.specs.Capped.{capped}
use Rattle.wf_cdf.proofs.length.atts_length.Given as goal

abbrev pub invariant-loop-att : goal.invariant-loop-att
invariant-loop-att l = l.total ≡ capped (8 + length (flat_map att_bytes (take l.att-index l.atts)))
