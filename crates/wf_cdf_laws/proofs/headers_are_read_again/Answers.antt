use Rattle.wf_cdf_laws.proofs.Headers.{read_again}
use Rattle.wf_cdf_laws.proofs.headers_are_read_again.Goals as goal

pub returns : goal.returns
returns c = read_again
