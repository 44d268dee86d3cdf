use Rattle.std.proofs.Common.{List, ℕ, Bor, ap, map, sym, ◌∙◌}
use Rattle.wf_model.specs.PlanDomains.{amount}
use Rattle.wf_plan_domains.specs.DomainTests.{stream_minutes}
use Rattle.wf_plan_domains.proofs.FirstFound.{map_map}
use Rattle.wf_plan_domains.proofs.streams.minutes.Goals as goal

pub returns : goal.returns
unfolding stream_minutes
returns c =
    c.in_ok-numbers.ensures
    ∙ sym (map_map (λ (n : Bor (List ℕ)). n.now) (λ name. amount c.args.config.now name c.args.domain) c.interval_names-names.result)
    ∙ ap (map (λ name. amount c.args.config.now name c.args.domain)) c.interval_names-names.ensures
