use Rattle.std.proofs.Common.{◌+◌, length, sym}
use Rattle.wf_plan_domains.specs.DomainTests.{nest_fault}
use Rattle.wf_plan_domains.proofs.FirstFound.{met, nests_ahead, passed}
use Rattle.wf_plan_domains.proofs.nests.nests_fault.Goals as goal

pub loop-nest-init : goal.loop-nest-init
loop-nest-init c = nests_ahead (nest_fault c.args.test c.args.plan.now) c.args.last (length c.args.plan.now.domains) c.requires.count

pub returns-then-is_some : goal.returns-then-is_some
returns-then-is_some c =
    met (nest_fault c.args.test c.args.plan.now) c.loop-nest.nest (c.args.last + 1) c.nest_fault-fault.result _ c.loop-nest-test.true c.nest_fault-fault.ensures (sym c.if-is_some.ensures) c.loop-nest.invariant

pub loop-nest-preserved : goal.loop-nest-preserved
loop-nest-preserved c =
    passed (nest_fault c.args.test c.args.plan.now) c.loop-nest.nest (c.args.last + 1) c.nest_fault-fault.result _ c.loop-nest-test.true c.nest_fault-fault.ensures (sym c.if-is_some.ensures) c.loop-nest.invariant
