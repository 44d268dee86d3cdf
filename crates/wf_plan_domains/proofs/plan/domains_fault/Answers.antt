use Rattle.std.proofs.Common.{map, ap, ap₂, ◌∙◌}
use Rattle.std.specs.Option.{option_or}
use Rattle.wf_model.specs.Reading.{first_fault}
use Rattle.wf_model.specs.Plans.{up_to}
use Rattle.wf_model.specs.PlanTests.{date_fault}
use Rattle.wf_plan_domains.proofs.FaultOrder.{found}
use Rattle.wf_plan_domains.proofs.plan.domains_fault.Goals as goal

pub returns : goal.returns
returns c =
    c.or-5.ensures
    ∙ ap₂ option_or (c.or-4.ensures
    ∙ ap₂ option_or (c.or-3.ensures
    ∙ ap₂ option_or (c.or-2.ensures
    ∙ ap₂ option_or (c.or.ensures
    ∙ ap₂ option_or (c.dates_fault.ensures ∙ ap (λ n. first_fault (map (date_fault c.args.config.now) (up_to n))) c.requires.count) c.in_ok-end.ensures) c.nests_before_run.ensures) c.in_ok-run.ensures) c.nests_fault.ensures) c.in_ok-intervals.ensures
    ∙ found c.args.config.now c.args.plan.now
