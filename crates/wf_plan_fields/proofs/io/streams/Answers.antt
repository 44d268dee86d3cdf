use Rattle.std.proofs.Common.{sym, ◌∙◌}
use Rattle.wf_plan_fields.proofs.IoReads.{streams_some}
use Rattle.wf_plan_fields.proofs.io.streams.Goals as goal

pub returns : goal.returns
returns c = c.from_vec-2.ensures ∙ c.in_ok-digit_values.ensures ∙ streams_some c.args.digits.now (sym c.is_empty.ensures ∙ c.if-is_empty.false)
