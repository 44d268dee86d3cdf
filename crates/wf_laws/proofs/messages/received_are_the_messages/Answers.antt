use Rattle.wf_laws.proofs.MessageLaws.{received_messages}
use Rattle.wf_laws.proofs.messages.received_are_the_messages.Goals as goal

pub returns : goal.returns
returns c = received_messages
