use Rattle.std.proofs.Common.{ap, map, sym, ◌∙◌}
use Rattle.wf_model.specs.PlanTests.{unbuilt_fault}
use Rattle.wf_model.specs.Reading.{first_fault}
use Rattle.wf_plan_domains.specs.DomainTests.{unbuilt_found, unbuilt_of}
use Rattle.wf_plan_domains.proofs.FirstFound.{map_map}
use Rattle.wf_plan_domains.proofs.built.unbuilt_fault.Goals as goal

pub returns : goal.returns
unfolding unbuilt_found
returns c =
    c.in_ok-fault.ensures
    ∙ ap first_fault (sym (map_map unbuilt_of (unbuilt_fault c.args.config.now) c.features-features.result))
    ∙ ap (λ us. first_fault (map (unbuilt_fault c.args.config.now) us)) c.features-features.ensures
