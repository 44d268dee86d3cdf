use Rattle.std.proofs.Common.{ap, sym, ◌∙◌}
use Rattle.wf_model.specs.Answer.{what_name}
use Rattle.wf_top.proofs.NameLaws.{phase_at}
use Rattle.wf_top.proofs.run_text.PointNames.what.Goals as goal

pub returns-in-Phase : goal.returns-in-Phase
returns-in-Phase c = λ plan are.
    c.name_at.ensures
    ∙ phase_at plan c.as_slice.result.now c.in-Phase.number (c.as_slice.ensures ∙ are.items)
    ∙ ap (what_name plan) (sym c.in-Phase.is)
