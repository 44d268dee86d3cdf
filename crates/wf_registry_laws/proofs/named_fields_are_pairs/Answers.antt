use Rattle.wf_registry_laws.proofs.Named.{named_fields_are_pairs}
use Rattle.wf_registry_laws.proofs.named_fields_are_pairs.Goals as goal

pub returns : goal.returns
returns c = named_fields_are_pairs
