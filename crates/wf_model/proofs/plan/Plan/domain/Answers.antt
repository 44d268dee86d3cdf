use Rattle.std.proofs.Common.{◌-◌, length, ap, ◌∙◌, arith, get_or, List}
use Rattle.std.proofs.lemmas.List.{get_or_read}
use Rattle.wf_model.specs.declared.plan.Domain.{Domain}
use Rattle.wf_model.specs.Plans.{domain_of, no_domain}
use Rattle.wf_model.proofs.plan.Plan.domain.Goals as goal

pub returns : goal.returns
unfolding domain_of
returns c =
    get_or_read c.as_slice.result.now (c.args.number - 1) c.index-as_slice-number.result (omega (arith, ap length c.as_slice.ensures)) c.index-as_slice-number.is no_domain
    ∙ ap (λ (l : List Domain). get_or l (c.args.number - 1) no_domain) c.as_slice.ensures
