use Rattle.wf_demo_laws.proofs.Values.{demo_value-small}
use Rattle.wf_demo_laws.proofs.demo_values_stay_below_hundred.Goals as goal

pub returns : goal.returns
returns c = demo_value-small
