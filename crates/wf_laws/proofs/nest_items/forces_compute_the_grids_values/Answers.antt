use Rattle.wf_laws.proofs.NestLaws.{force_values}
use Rattle.wf_laws.proofs.nest_items.forces_compute_the_grids_values.Goals as goal

pub returns : goal.returns
returns c = force_values
