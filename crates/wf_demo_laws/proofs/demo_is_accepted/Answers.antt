use Rattle.std.proofs.Common.{arith}
use Rattle.wf_demo_laws.proofs.Accepted.{plan_sound, layout_sound, plan_covered}
use Rattle.wf_demo_laws.proofs.demo_is_accepted.Goals as goal

pub returns : goal.returns
returns c = λ nx ny steps px m high some room. record { sound = plan_sound nx ny steps (omega arith) high; laid = layout_sound nx ny steps px some room high; covered = plan_covered nx ny steps }
