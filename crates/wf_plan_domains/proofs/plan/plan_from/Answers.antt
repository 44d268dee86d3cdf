use Rattle.std.proofs.Common.{◌*◌, ◌/◌, ◌==◌, ap, ap₂, length, sym, ◌∙◌}
use Rattle.wf_model.specs.PlanDomains.{domains_to}
use Rattle.wf_plan_domains.specs.DomainPlans.{domain_plan_from}
use Rattle.wf_plan_domains.proofs.MadeDomains.{length-domains_to, same_plan}
use Rattle.wf_plan_domains.proofs.plan.plan_from.Goals as goal

pub returns-clause-value : goal.returns-clause-value
unfolding domain_plan_from
returns-clause-value c =
    same_plan (c.from_vec.ensures ∙ c.in_ok-domains_to.ensures ∙ ap (domains_to c.args.config.now) c.requires)
    (c.from_vec-2.ensures ∙ c.new.ensures.items) (c.from_vec-3.ensures ∙ c.new-2.ensures.items) c.in_ok-start_text.ensures
    (c.quotient.ensures ∙ ap₂ (λ a b. a / b) c.in_ok-run_seconds.ensures (c.from-step.ensures ∙ c.in_ok-small_amount.ensures))
    (c.quotient-2.ensures ∙ ap₂ (λ a b. a * 60 / b) (c.from-restart_minutes.ensures ∙ c.in_ok-small_amount-2.ensures) (c.from-step.ensures ∙ c.in_ok-small_amount.ensures))
    c.flag.ensures (ap (λ n. n == 1) c.in_ok-small_amount-3.ensures) c.in_ok-small_amount-4.ensures

pub returns-clause-count : goal.returns-clause-count
returns-clause-count c =
    sym (ap length (c.from_vec.ensures ∙ c.in_ok-domains_to.ensures) ∙ length-domains_to c.args.config.now c.args.total)
