use Rattle.wf_demo_laws.proofs.Writes.{writes_of_demo}
use Rattle.wf_demo_laws.proofs.demo_calls_are_its_writes.Goals as goal

pub returns : goal.returns
returns c = writes_of_demo
