use Rattle.wf_laws.proofs.StopLaws.{owners_name}
use Rattle.wf_laws.proofs.overflow.owners_name_the_least_point.Goals as goal

pub returns : goal.returns
returns c = owners_name
