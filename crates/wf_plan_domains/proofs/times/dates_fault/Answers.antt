use Rattle.std.proofs.Common.{◌+◌, sym}
use Rattle.wf_model.specs.PlanTests.{date_fault}
use Rattle.wf_plan_domains.proofs.FirstFound.{met, passed}
use Rattle.wf_plan_domains.proofs.times.dates_fault.Goals as goal

pub returns-then-is_some : goal.returns-then-is_some
returns-then-is_some c =
    met (date_fault c.args.config.now) c.loop-domain.domain (c.args.last + 1) c.date_fault-fault.result _ c.loop-domain-test.true c.date_fault-fault.ensures (sym c.if-is_some.ensures) c.loop-domain.invariant

pub loop-domain-preserved : goal.loop-domain-preserved
loop-domain-preserved c =
    passed (date_fault c.args.config.now) c.loop-domain.domain (c.args.last + 1) c.date_fault-fault.result _ c.loop-domain-test.true c.date_fault-fault.ensures (sym c.if-is_some.ensures) c.loop-domain.invariant
