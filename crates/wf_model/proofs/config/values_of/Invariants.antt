use Rattle.std.proofs.Common.{◌≡◌, drop}
use Rattle.wf_model.specs.Config.{values_of}
use Rattle.wf_model.proofs.config.values_of.Given as goal

abbrev pub invariant-loop-pair : goal.invariant-loop-pair
invariant-loop-pair l = values_of (drop l.pair-index l.values) l.name ≡ values_of l.values l.name
