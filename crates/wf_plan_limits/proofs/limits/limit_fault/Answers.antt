use Rattle.std.proofs.Common.{◌∙◌, ap, sym}
use Rattle.wf_model.specs.Reading.{first_fault}
use Rattle.wf_plan_limits.specs.LimitParts.{size_faults, run_faults}
use Rattle.wf_plan_limits.proofs.Stages.{stays_in, goes_on_in, if_ok-along, limit_faults-parts, levels-few}
use Rattle.wf_plan_limits.proofs.limits.limit_fault.Goals as goal

pub returns-then-is_some : goal.returns-then-is_some
returns-then-is_some c =
    stays_in c.in_ok-fault.fault (size_faults c.args.plan.now c.args.extents.now) (run_faults c.args.plan.now) c.in_ok-fault.ensures (sym c.if-is_some.ensures)
    ∙ ap first_fault (limit_faults-parts c.args.plan.now c.args.extents.now)

pub run_fault-requires : goal.run_fault-requires
run_fault-requires c = levels-few c.args.plan.now c.args.extents.now c.in_ok-fault.fault c.in_ok-fault.ensures (sym c.if-is_some.ensures)

pub returns : goal.returns
returns c =
    if_ok-along c.run_fault.result _ _
    (λ f is. is ∙ goes_on_in c.in_ok-fault.fault (size_faults c.args.plan.now c.args.extents.now) (run_faults c.args.plan.now) c.in_ok-fault.ensures (sym c.if-is_some.ensures)
    ∙ ap first_fault (limit_faults-parts c.args.plan.now c.args.extents.now))
    c.run_fault.ensures
