use Rattle.std.proofs.Common.{◌≡◌, None, rules, sym, ◌∙◌}
use Rattle.wf_plan_domains.proofs.FaultOrder.{accepted, refused_date, refused_test, refused_unbuilt}
use Rattle.wf_plan_domains.proofs.plan.domain_plan.Goals as goal

pub returns-in-Some : goal.returns-in-Some
returns-in-Some c = refused_unbuilt c.args.config.now c.in-Some.fault (sym c.in-Some.is ∙ c.in_ok-unbuilt.ensures)

pub returns-in-Some-dates : goal.returns-in-Some-dates
returns-in-Some-dates c =
    let built : None ≡ c.in_ok-unbuilt.unbuilt = search rules in
    refused_date c.args.config.now c.in_ok-total.total c.in-Some-dates.fault (built ∙ c.in_ok-unbuilt.ensures) c.in_ok-total.ensures.total (sym c.in-Some-dates.is ∙ c.dates_fault-dates.ensures)

pub returns-in-Some-fault : goal.returns-in-Some-fault
returns-in-Some-fault c =
    let built : None ≡ c.in_ok-unbuilt.unbuilt = search rules in
    refused_test c.args.config.now c.in_ok-plan.plan c.in-Some-fault.fault (built ∙ c.in_ok-unbuilt.ensures) c.in_ok-plan.ensures.value (sym c.in-Some-fault.is ∙ c.in_ok-fault.ensures)

pub returns-in-None : goal.returns-in-None
returns-in-None c =
    let built : None ≡ c.in_ok-unbuilt.unbuilt = search rules in
    accepted c.args.config.now c.in_ok-plan.plan (built ∙ c.in_ok-unbuilt.ensures) c.in_ok-plan.ensures.value (sym c.in-None.is ∙ c.in_ok-fault.ensures)
