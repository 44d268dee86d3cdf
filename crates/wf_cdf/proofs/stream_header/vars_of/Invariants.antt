use Rattle.std.proofs.Common.{◌≡◌, ◌∷◌, map, take}
use Rattle.wf_model.specs.Headers.{times_var}
use Rattle.wf_cdf.specs.StreamLevels.{written_var}
use Rattle.wf_cdf.proofs.stream_header.vars_of.Given as goal

abbrev pub invariant-loop-level : goal.invariant-loop-level
invariant-loop-level l = l.vars.items ≡ times_var ∷ map (written_var l.plan l.stream l.dims) (take l.level-index l.levels)
