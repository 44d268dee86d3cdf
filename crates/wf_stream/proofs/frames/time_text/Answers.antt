use Rattle.std.proofs.Common.{ap, ◌∙◌}
use Rattle.wf_model.specs.Calendar.{Moment, moment_after, text_of, time_text}
use Rattle.wf_stream.proofs.frames.time_text.Goals as goal

pub returns : goal.returns
unfolding time_text
returns c = c.in-Ok.ensures.text ∙ ap (λ (m : Moment). text_of (moment_after m c.args.seconds)) c.in-Some.ensures.moment
