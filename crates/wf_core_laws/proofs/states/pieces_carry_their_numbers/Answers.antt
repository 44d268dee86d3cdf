use Rattle.wf_core_laws.proofs.Interleavings.{pieces_carry_their_numbers}
use Rattle.wf_core_laws.proofs.states.pieces_carry_their_numbers.Goals as goal

pub returns : goal.returns
returns c = pieces_carry_their_numbers
