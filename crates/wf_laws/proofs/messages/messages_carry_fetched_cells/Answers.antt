use Rattle.wf_laws.proofs.MessageLaws.{fetched_alone}
use Rattle.wf_laws.proofs.messages.messages_carry_fetched_cells.Goals as goal

pub returns : goal.returns
returns c = fetched_alone
