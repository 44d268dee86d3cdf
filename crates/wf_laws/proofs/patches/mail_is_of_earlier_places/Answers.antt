use Rattle.wf_laws.proofs.PatchLaws.{mail_before}
use Rattle.wf_laws.proofs.patches.mail_is_of_earlier_places.Goals as goal

pub returns : goal.returns
returns c = mail_before
