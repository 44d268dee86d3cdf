use Rattle.std.proofs.Common.{ap, ◌∙◌}
use Rattle.wf_model.specs.Calendar.{text_of}
use Rattle.wf_plan_domains.proofs.StartMoments.{no_seconds_later}
use Rattle.wf_plan_domains.proofs.plan.start_text.Goals as goal

pub returns-in-Ok : goal.returns-in-Ok
returns-in-Ok c = c.in-Ok.ensures.text ∙ ap text_of (no_seconds_later c.in_ok-start.start c.stamp_text.ensures.start ∙ c.in_ok-start.ensures)
