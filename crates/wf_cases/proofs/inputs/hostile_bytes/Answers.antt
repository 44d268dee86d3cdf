use Rattle.wf_cases.proofs.InputCases.{hostile_bytes}
use Rattle.wf_cases.proofs.inputs.hostile_bytes.Goals as goal

pub returns : goal.returns
returns c = hostile_bytes
