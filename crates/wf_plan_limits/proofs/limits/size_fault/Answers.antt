use Rattle.std.proofs.Common.{rules, ◌≡◌, ◌∙◌, ◌++◌, ◌∷◌, [], map, sym}
use Rattle.std.specs.Prelude.{nat_lt, pos}
use Rattle.wf_model.specs.declared.plan_fault.PlanFault.TheVariants.{Limit}
use Rattle.wf_model.specs.declared.plan_fault.Which.TheVariants as which
use Rattle.wf_model.specs.Reading.{fault_if, first_fault}
use Rattle.wf_model.specs.PlanTests.{extent_fault}
use Rattle.wf_plan_limits.specs.LimitParts.{levels_limit, cells_limit}
use Rattle.wf_plan_limits.proofs.Stages.{goes_on, stays_in, goes_on_in, if_ok-along, or_none}
use Rattle.wf_plan_limits.proofs.limits.size_fault.Goals as goal

pub returns-then-is_some-2 : goal.returns-then-is_some-2
returns-then-is_some-2 c =
    let levels : c.in_ok-fault.fault ≡ levels_limit c.args.plan.now = search rules in
    stays_in c.extents_fault-fault.result (map extent_fault c.args.extents.now) (cells_limit c.args.plan.now ∷ []) c.extents_fault-fault.ensures (sym c.if-is_some-2.ensures)
    ∙ goes_on c.in_ok-fault.fault (levels_limit c.args.plan.now) (first_fault (map extent_fault c.args.extents.now ++ cells_limit c.args.plan.now ∷ [])) levels (sym c.if-is_some.ensures)

pub returns : goal.returns
returns c =
    let levels : c.in_ok-fault.fault ≡ levels_limit c.args.plan.now = search rules in
    if_ok-along c.limited-2.result _ _
    (λ f is. is
    ∙ (λ i. fault_if (nat_lt 50000000 (c.in_ok-all_cells.ensures i)) (Limit which.Cells (pos (c.in_ok-all_cells.ensures i))))
    ∙ or_none (cells_limit c.args.plan.now)
    ∙ goes_on_in c.extents_fault-fault.result (map extent_fault c.args.extents.now) (cells_limit c.args.plan.now ∷ []) c.extents_fault-fault.ensures (sym c.if-is_some-2.ensures)
    ∙ goes_on c.in_ok-fault.fault (levels_limit c.args.plan.now) (first_fault (map extent_fault c.args.extents.now ++ cells_limit c.args.plan.now ∷ [])) levels (sym c.if-is_some.ensures))
    c.limited-2.ensures
