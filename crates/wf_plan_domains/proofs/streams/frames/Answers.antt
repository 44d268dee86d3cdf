use Rattle.std.proofs.Common.{List, ℕ, Bor, ap, map, sym, ◌∙◌}
use Rattle.wf_model.specs.PlanDomains.{amount}
use Rattle.wf_plan_domains.specs.DomainTests.{stream_frames}
use Rattle.wf_plan_domains.proofs.FirstFound.{map_map}
use Rattle.wf_plan_domains.proofs.streams.frames.Goals as goal

pub returns : goal.returns
unfolding stream_frames
returns c =
    c.from_vec.ensures ∙ c.in_ok-numbers.ensures
    ∙ sym (map_map (λ (n : Bor (List ℕ)). n.now) (λ name. amount c.args.config.now name c.args.domain) c.frames_names-names.result)
    ∙ ap (map (λ name. amount c.args.config.now name c.args.domain)) c.frames_names-names.ensures
