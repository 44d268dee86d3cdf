use Rattle.wf_laws.proofs.StopLaws.{none_named_before}
use Rattle.wf_laws.proofs.overflow.no_patch_names_a_point_before.Goals as goal

pub returns : goal.returns
returns c = none_named_before
