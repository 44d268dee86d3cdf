use Rattle.wf_config_laws.proofs.SoundDomains.{bound_domains_ranged}
use Rattle.wf_config_laws.proofs.bound_domains_are_ranged.Goals as goal

pub returns : goal.returns
returns c = bound_domains_ranged
