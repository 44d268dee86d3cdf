use Rattle.std.proofs.Common.{refl}
use Rattle.wf_config.proofs.built_ins.rows.Goals as goal

pub returns-clause-rows : goal.returns-clause-rows
returns-clause-rows c = refl

pub returns-clause-names : goal.returns-clause-names
returns-clause-names c = refl
