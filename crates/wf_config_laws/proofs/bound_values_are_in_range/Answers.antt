use Rattle.wf_config_laws.proofs.Values.{bound_values_ranged}
use Rattle.wf_config_laws.proofs.bound_values_are_in_range.Goals as goal

pub returns : goal.returns
returns c = bound_values_ranged
