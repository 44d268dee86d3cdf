use Rattle.wf_core_laws.proofs.Interleavings.{pieces_carry_the_lockstep_runs_numbers}
use Rattle.wf_core_laws.proofs.states.pieces_carry_the_lockstep_runs_numbers.Goals as goal

pub returns : goal.returns
returns c = pieces_carry_the_lockstep_runs_numbers
