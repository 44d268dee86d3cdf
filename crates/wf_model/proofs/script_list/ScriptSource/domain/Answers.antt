use Rattle.std.proofs.Common.{◌-◌, ◌<◌, List, get_or, length, arith, ap, ◌∙◌}
use Rattle.std.proofs.lemmas.List.{get_or_read}
use Rattle.wf_model.specs.declared.plan.Domain.{Domain}
use Rattle.wf_model.specs.Plans.{domain_of, no_domain}
use Rattle.wf_model.proofs.script_list.ScriptSource.domain.Goals as goal

pub returns : goal.returns
unfolding domain_of
returns c =
    let domains = c.as_slice.result.now in
    let inside : c.args.number - 1 < length domains = omega (arith, c.requires.0, c.requires.1, ap (length {A = Domain}) c.as_slice.ensures) in
    get_or_read domains (c.args.number - 1) c.index-as_slice-number.result inside c.index-as_slice-number.is no_domain
    ∙ ap (λ (xs : List Domain). get_or xs (c.args.number - 1) no_domain) c.as_slice.ensures
