use Rattle.std.proofs.Common.{sym, ap, ◌∙◌}
use Rattle.std.specs.Option.{option_map}
use Rattle.wf_plan_fields.specs.IoParts.{sized_of}
use Rattle.wf_plan_fields.proofs.IoReads.{at_front}
use Rattle.wf_plan_fields.proofs.io.first_part.Goals as goal

pub returns-in-Some-clause-part : goal.returns-in-Some-clause-part
returns-in-Some-clause-part c =
    at_front c.args.bytes.now (sized_of (c.in-Some.part, c.in-Some.len)) c.split_at.result.1.now c.in-len1-up.len_at_least
    (sym (ap (option_map sized_of) c.in-Some.is) ∙ c.in_ok-part.ensures.part) c.split_at.ensures.back
