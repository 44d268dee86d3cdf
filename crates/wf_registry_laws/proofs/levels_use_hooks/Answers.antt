use Rattle.wf_registry_laws.proofs.Hooks.{levels_use_hooks}
use Rattle.wf_registry_laws.proofs.levels_use_hooks.Goals as goal

pub returns : goal.returns
returns c = levels_use_hooks
