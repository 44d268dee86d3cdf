use Rattle.wf_demo_laws.proofs.Command.{answer_is}
use Rattle.wf_demo_laws.proofs.demo_answer_is_its_commands.Goals as goal

pub returns : goal.returns
returns c = answer_is
