use Rattle.wf_demo_laws.proofs.Grids.{demo_goes}
use Rattle.wf_demo_laws.proofs.demo_goes_through.Goals as goal

pub returns : goal.returns
returns c = demo_goes
