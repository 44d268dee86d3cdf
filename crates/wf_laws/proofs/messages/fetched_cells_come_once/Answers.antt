use Rattle.wf_laws.proofs.MessageLaws.{fetched_once}
use Rattle.wf_laws.proofs.messages.fetched_cells_come_once.Goals as goal

pub returns : goal.returns
returns c = fetched_once
