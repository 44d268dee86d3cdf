use Rattle.wf_demo_laws.proofs.Script.{script-steps}
use Rattle.wf_demo_laws.proofs.demo_script_is_its_steps.Goals as goal

pub returns : goal.returns
returns c = script-steps
