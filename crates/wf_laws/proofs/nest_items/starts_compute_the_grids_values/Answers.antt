use Rattle.wf_laws.proofs.NestLaws.{start_values}
use Rattle.wf_laws.proofs.nest_items.starts_compute_the_grids_values.Goals as goal

pub returns : goal.returns
returns c = start_values
