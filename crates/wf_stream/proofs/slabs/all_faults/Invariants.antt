use Rattle.std.proofs.Common.{◌≡◌}
use Rattle.wf_stream.specs.Slabs.{faults_of, slabs_up_to}
use Rattle.wf_stream.proofs.slabs.all_faults.Given as goal

abbrev pub invariant-loop-level : goal.invariant-loop-level
invariant-loop-level l = l.faults ≡ faults_of (slabs_up_to l.plan l.number l.level l.bytes l.header)
