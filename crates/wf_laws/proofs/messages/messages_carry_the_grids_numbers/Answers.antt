use Rattle.wf_laws.proofs.MessageLaws.{carry_grids}
use Rattle.wf_laws.proofs.messages.messages_carry_the_grids_numbers.Goals as goal

pub returns : goal.returns
returns c = carry_grids
