use Rattle.wf_laws.proofs.Refusal.{refused_reads}
use Rattle.wf_laws.proofs.halo_rule.refused_reads_are_stale.Goals as goal

pub returns : goal.returns
returns c = refused_reads
