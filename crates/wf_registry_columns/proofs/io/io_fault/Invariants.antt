use Rattle.std.proofs.Common.{◌≡◌, length}
use Rattle.wf_model.specs.Io.{io_from}
use Rattle.wf_model.specs.Judging.{fault_of_result}
use Rattle.wf_registry_columns.proofs.io.io_fault.Given as goal

abbrev pub invariant-loop-rest : goal.invariant-loop-rest
invariant-loop-rest l = fault_of_result (io_from 0 l.rest) ≡ fault_of_result (io_from 0 l.fn.word)

abbrev pub decreases-loop-rest : goal.decreases-loop-rest
decreases-loop-rest l = length l.rest
