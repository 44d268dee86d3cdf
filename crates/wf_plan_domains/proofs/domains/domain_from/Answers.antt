use Rattle.std.proofs.Common.{◌*◌, ◌/◌, map, ap, ◌∙◌, rules, FitsSigned, w64}
use Rattle.std.proofs.lemmas.Int.{to_z-of_z}
use Rattle.wf_plan_domains.specs.DomainTests.{stream_frames, stream_minutes}
use Rattle.wf_plan_domains.proofs.MadeDomains.{same_domain}
use Rattle.wf_plan_domains.proofs.domains.domain_from.Goals as goal

pub returns : goal.returns
unfolding stream_frames stream_minutes
returns c =
    let fits : FitsSigned w64 c.in_ok-begins.field-0 = search rules in
    same_domain c.in_ok-of_nest.ensures c.in_ok-small_amount.ensures c.in_ok-small_amount-2.ensures c.in_ok-of_nest-2.ensures c.in_ok-of_nest-3.ensures
    c.in_ok-small_amount-3.ensures c.in_ok-small_amount-4.ensures c.in_ok-small_amount-5.ensures c.in_ok-seconds.ensures (to_z-of_z w64 c.in_ok-begins.field-0 fits ∙ c.in_ok-begins.ensures)
    c.flag.ensures c.flag-2.ensures c.flag-3.ensures
    (c.in_ok-intervals.ensures ∙ ap (λ s. map (λ m. m * 60 / s) (stream_minutes c.args.config.now c.args.domain)) c.in_ok-seconds.ensures)
    c.in_ok-frames.ensures
