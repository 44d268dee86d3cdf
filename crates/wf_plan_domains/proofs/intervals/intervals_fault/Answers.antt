use Rattle.std.proofs.Common.{◌+◌, length, sym}
use Rattle.wf_model.specs.PlanTests.{interval_faults}
use Rattle.wf_plan_domains.specs.DomainTests.{intervals_found}
use Rattle.wf_plan_domains.proofs.FirstFound.{lists_ahead, met, passed}
use Rattle.wf_plan_domains.proofs.intervals.intervals_fault.Goals as goal

pub loop-domain-init : goal.loop-domain-init
unfolding intervals_found
loop-domain-init c = lists_ahead (interval_faults c.args.config.now c.args.plan.now) c.args.last (length c.args.plan.now.domains) c.requires.count

pub returns-then-is_some : goal.returns-then-is_some
returns-then-is_some c =
    met (intervals_found c.args.config.now c.args.plan.now) c.loop-domain.domain (c.args.last + 1) c.in_ok-fault.fault _ c.loop-domain-test.true c.in_ok-fault.ensures (sym c.if-is_some.ensures) c.loop-domain.invariant

pub loop-domain-preserved : goal.loop-domain-preserved
loop-domain-preserved c =
    passed (intervals_found c.args.config.now c.args.plan.now) c.loop-domain.domain (c.args.last + 1) c.in_ok-fault.fault _ c.loop-domain-test.true c.in_ok-fault.ensures (sym c.if-is_some.ensures) c.loop-domain.invariant
