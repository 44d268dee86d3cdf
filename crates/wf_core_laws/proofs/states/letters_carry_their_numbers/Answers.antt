use Rattle.wf_core_laws.proofs.Interleavings.{letters_carry_their_numbers}
use Rattle.wf_core_laws.proofs.states.letters_carry_their_numbers.Goals as goal

pub returns : goal.returns
returns c = letters_carry_their_numbers
