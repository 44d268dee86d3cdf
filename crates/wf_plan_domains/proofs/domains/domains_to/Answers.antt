use Rattle.std.proofs.Common.{◌+◌, ap, sym, ◌∙◌}
use Rattle.wf_model.specs.PlanDomains.{domain_from}
use Rattle.wf_plan_domains.proofs.MadeDomains.{none_made, one_made}
use Rattle.wf_plan_domains.proofs.domains.domains_to.Goals as goal

pub loop-made-init : goal.loop-made-init
loop-made-init c = c.new-domains.ensures.items ∙ sym (none_made c.args.config.now)

pub loop-made-preserved : goal.loop-made-preserved
loop-made-preserved c =
    c.in_ok-push.ensures.items
    ∙ one_made c.args.config.now c.loop-made.domains.items c.loop-made.made c.in_ok-domain_from.field-0 c.loop-made.invariant
    (c.in_ok-domain_from.ensures ∙ ap (λ xs. domain_from c.args.config.now xs (c.loop-made.made + 1)) c.as_slice.ensures.value)
