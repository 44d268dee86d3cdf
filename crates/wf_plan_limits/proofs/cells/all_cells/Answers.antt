use Rattle.std.proofs.Common.{sym, ap, ◌∙◌, List}
use Rattle.std.proofs.lemmas.List.{take_all}
use Rattle.std.specs.Prelude.{sum_by}
use Rattle.wf_model.specs.declared.plan.Domain.{Domain}
use Rattle.wf_plan_limits.specs.CellCount.{domain_cells}
use Rattle.wf_plan_limits.proofs.CellSums.{all_cells_listed}
use Rattle.wf_plan_limits.proofs.cells.all_cells.Goals as goal

pub returns : goal.returns
returns c =
    c.loop-domain.invariant
    ∙ ap (sum_by (domain_cells c.args.plan.now.fields)) (take_all c.loop-domain.domain-index c.as_slice-domain-items.result.now c.loop-domain-test.false)
    ∙ ap (λ (ds : List Domain). sum_by (domain_cells c.args.plan.now.fields) ds) c.as_slice-domain-items.ensures
    ∙ sym (all_cells_listed c.args.plan.now)
