use Rattle.wf_laws.proofs.MessageLaws.{senders_send}
use Rattle.wf_laws.proofs.messages.senders_send_the_numbers.Goals as goal

pub returns : goal.returns
returns c = senders_send
