use Rattle.std.proofs.Common.{◌≡◌, ◌∙◌, ap, sym, Some, None}
use Rattle.std.proofs.lemmas.Result.{err_from_is_err_and}
use Rattle.wf_model.specs.declared.plan.Plan.{Plan}
use Rattle.wf_model.specs.Reading.{first_fault}
use Rattle.wf_model.specs.PlanFields.{z_extents}
use Rattle.wf_model.specs.PlanTests.{item_faults}
use Rattle.wf_plan_domains.specs.DomainErrors.{fault_of}
use Rattle.wf_plan_domains.proofs.WholePlans.{with_items}
use Rattle.wf_plan.proofs.PlanStages.{planned, refused_domains, refused_items}
use Rattle.wf_plan.proofs.planning.plan.Goals as goal

pub returns-in_err-bare : goal.returns-in_err-bare
returns-in_err-bare c =
    let p = err_from_is_err_and c.from_residual.result c.from_residual.ensures.1 in
    rw (p.1, p.2) (refused_domains c.args.config.now c.args.hooks.now c.args.table (fault_of c.in_err-bare.field-0.0) c.in_err-bare.ensures)

pub returns-in-Some : goal.returns-in-Some
returns-in-Some c =
    let whole : Plan = with_items c.in_ok-bare.bare c.in_ok-fields.field-0.fields c.args.table in
    refused_items c.args.config.now c.args.hooks.now c.args.table c.in_ok-bare.bare whole c.in_ok-bare.ensures
    (ap (λ fs. with_items c.in_ok-bare.bare fs c.args.table) c.in_ok-fields.ensures.fields) c.in-Some.fault
    (sym c.in-Some.is ∙ c.in_ok-fault.ensures ∙ ap (λ zs. first_fault (item_faults whole zs)) (c.as_slice.ensures ∙ c.in_ok-fields.ensures.extents))

pub returns : goal.returns
returns c =
    let whole : Plan = with_items c.in_ok-bare.bare c.in_ok-fields.field-0.fields c.args.table in
    planned c.args.config.now c.args.hooks.now c.args.table c.in_ok-bare.bare whole c.in_ok-bare.ensures
    (ap (λ fs. with_items c.in_ok-bare.bare fs c.args.table) c.in_ok-fields.ensures.fields)
    (sym c.in-None.is ∙ c.in_ok-fault.ensures ∙ ap (λ zs. first_fault (item_faults whole zs)) (c.as_slice.ensures ∙ c.in_ok-fields.ensures.extents))
