use Rattle.std.proofs.Common.{map, ap₂, ◌∙◌}
use Rattle.std.specs.Option.{option_or}
use Rattle.wf_model.specs.PlanTests.{nests_of, parent_fault, ratio_fault, size_fault, edge_fault, periodic_fault, step_fault}
use Rattle.wf_plan_domains.specs.DomainTests.{nests_found}
use Rattle.wf_plan_domains.proofs.FaultOrder.{six}
use Rattle.wf_plan_domains.proofs.plan.nests_before_run.Goals as goal

pub returns : goal.returns
unfolding nests_found
returns c =
    c.or-5.ensures
    ∙ ap₂ option_or (c.or-4.ensures
    ∙ ap₂ option_or (c.or-3.ensures
    ∙ ap₂ option_or (c.or-2.ensures
    ∙ ap₂ option_or (c.or.ensures ∙ ap₂ option_or c.nests_fault.ensures c.nests_fault-2.ensures) c.nests_fault-3.ensures) c.nests_fault-4.ensures) c.nests_fault-5.ensures) c.nests_fault-6.ensures
    ∙ six (map (parent_fault c.args.plan.now) (nests_of c.args.plan.now)) (map (ratio_fault c.args.plan.now) (nests_of c.args.plan.now)) (map (size_fault c.args.plan.now) (nests_of c.args.plan.now))
    (map (edge_fault c.args.plan.now) (nests_of c.args.plan.now)) (map (periodic_fault c.args.plan.now) (nests_of c.args.plan.now)) (map (step_fault c.args.plan.now) (nests_of c.args.plan.now))
