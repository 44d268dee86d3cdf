use Rattle.std.proofs.Common.{◌∙◌}
use Rattle.wf_plan_domains.proofs.StreamIntervals.{with_restart, without_restart}
use Rattle.wf_plan_domains.proofs.intervals.domain_fault.Goals as goal

pub returns-in_ok-restart_fault : goal.returns-in_ok-restart_fault
returns-in_ok-restart_fault c =
    c.or.ensures ∙ with_restart c.args.config.now c.args.plan.now c.args.domain c.in_ok-fault.fault c.in_ok-restart_fault.field-0 c.if-domain-eq1.true c.in_ok-fault.ensures c.in_ok-restart_fault.ensures

pub returns-else-domain-eq1 : goal.returns-else-domain-eq1
returns-else-domain-eq1 c =
    without_restart c.args.config.now c.args.plan.now c.args.domain c.in_ok-fault.fault c.if-domain-eq1.false c.in_ok-fault.ensures
