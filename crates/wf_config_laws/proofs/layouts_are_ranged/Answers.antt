use Rattle.wf_config_laws.proofs.Layouts.{layouts_ranged}
use Rattle.wf_config_laws.proofs.layouts_are_ranged.Goals as goal

pub returns : goal.returns
returns c = layouts_ranged
