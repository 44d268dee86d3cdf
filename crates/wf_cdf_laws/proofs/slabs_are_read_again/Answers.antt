use Rattle.wf_cdf_laws.proofs.Slabs.{slabs_again}
use Rattle.wf_cdf_laws.proofs.slabs_are_read_again.Goals as goal

pub returns : goal.returns
returns c = slabs_again
