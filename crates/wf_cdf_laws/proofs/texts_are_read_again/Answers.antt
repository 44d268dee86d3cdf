use Rattle.wf_cdf_laws.proofs.Slabs.{texts_again}
use Rattle.wf_cdf_laws.proofs.texts_are_read_again.Goals as goal

pub returns : goal.returns
returns c = texts_again
