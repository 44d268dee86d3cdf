use Rattle.wf_table_laws.proofs.Follows.{calls_hooks}
use Rattle.wf_table_laws.proofs.calls_are_hooks.Goals as goal

pub returns : goal.returns
returns c = calls_hooks
