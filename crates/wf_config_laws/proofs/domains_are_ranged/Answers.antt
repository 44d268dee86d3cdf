use Rattle.wf_config_laws.proofs.SoundDomains.{domains_ranged}
use Rattle.wf_config_laws.proofs.domains_are_ranged.Goals as goal

pub returns : goal.returns
returns c = domains_ranged
