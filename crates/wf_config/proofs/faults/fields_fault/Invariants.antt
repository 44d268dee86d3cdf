use Rattle.std.proofs.Common.{◌≡◌, map, drop}
use Rattle.wf_model.specs.Reading.{first_fault}
use Rattle.wf_model.specs.Config.{float_fault}
use Rattle.wf_config.proofs.faults.fields_fault.Given as goal

abbrev pub invariant-loop-entry : goal.invariant-loop-entry
invariant-loop-entry l = first_fault (map float_fault (drop l.entry-index l.fields)) ≡ first_fault (map float_fault l.fields)
