use Rattle.std.proofs.Common.{◌≡◌, ◌++◌, take}
use Rattle.std.specs.List.{flat_map}
use Rattle.wf_model.specs.Bytes.{var_bytes}
use Rattle.wf_cdf.proofs.header.put_vars.Given as goal

abbrev pub invariant-loop-var : goal.invariant-loop-var
invariant-loop-var l = l.out.items ≡ l.initial.out.items ++ flat_map (var_bytes l.version) (take l.var-index l.vars)
