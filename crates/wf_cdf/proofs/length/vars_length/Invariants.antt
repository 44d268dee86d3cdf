use Rattle.std.proofs.Common.{◌≡◌, ◌+◌, take, length}
use Rattle.std.specs.List.{flat_map}
use Rattle.wf_model.specs.Bytes.{var_bytes}
use Rattle.wf_cdf.specs.Capped.{capped}
use Rattle.wf_cdf.proofs.length.vars_length.Given as goal

abbrev pub invariant-loop-var : goal.invariant-loop-var
invariant-loop-var l = l.total ≡ capped (8 + length (flat_map (var_bytes l.version) (take l.var-index l.vars)))
