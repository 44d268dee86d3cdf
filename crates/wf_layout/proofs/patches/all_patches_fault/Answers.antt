use Rattle.std.proofs.Common.{◌+◌, length, sym}
use Rattle.wf_model.specs.PlanOf.{patches_faults}
use Rattle.wf_layout.proofs.FirstFound.{met, passed}
use Rattle.wf_layout.proofs.patches.all_patches_fault.Goals as goal

pub returns-then-is_some : goal.returns-then-is_some
returns-then-is_some c =
    met (patches_faults c.args.plan.now c.args.layout.now) c.loop-number.number (length c.as_slice.result.now + 1) c.patches_fault-fault.result _ c.loop-number-test.true c.patches_fault-fault.ensures (sym c.if-is_some.ensures) c.loop-number.invariant

pub loop-number-preserved : goal.loop-number-preserved
loop-number-preserved c =
    passed (patches_faults c.args.plan.now c.args.layout.now) c.loop-number.number (length c.as_slice.result.now + 1) c.patches_fault-fault.result _ c.loop-number-test.true c.patches_fault-fault.ensures (sym c.if-is_some.ensures) c.loop-number.invariant
