use Rattle.wf_cdf_laws.proofs.FileHeaders.{headers_again}
use Rattle.wf_cdf_laws.proofs.file_headers_are_read_again.Goals as goal

pub returns : goal.returns
returns c = headers_again
