use Rattle.wf_laws.proofs.Owners.{each_owner}
use Rattle.wf_laws.proofs.ownership.each_point_has_one_owner.Goals as goal

pub returns : goal.returns
returns c = each_owner
