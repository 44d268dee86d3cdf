use Rattle.wf_laws.proofs.MessageLaws.{asked_once}
use Rattle.wf_laws.proofs.messages.asked_points_come_once.Goals as goal

pub returns : goal.returns
returns c = asked_once
