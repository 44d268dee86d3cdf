use Rattle.std.proofs.Common.{◌∙◌, ◌+◌, sym}
use Rattle.wf_model.specs.KeptLines.{is_equals}
use Rattle.wf_registry_lines.proofs.Places.{after_place, all_before, before_place, none_after_range, range_from}
use Rattle.wf_registry_lines.proofs.condition.parted.Goals as goal

pub returns-in-None-clause-before : goal.returns-in-None-clause-before
returns-in-None-clause-before c = all_before is_equals c.args.word.now (sym c.equals_at.ensures.place ∙ c.in-None.is)

pub returns-in-None-clause-after : goal.returns-in-None-clause-after
returns-in-None-clause-after c = none_after_range is_equals c.args.word.now (sym c.equals_at.ensures.place ∙ c.in-None.is)

pub returns-in-Some-clause-before : goal.returns-in-Some-clause-before
returns-in-Some-clause-before c = before_place is_equals c.args.word.now c.in-Some.place (sym c.equals_at.ensures.place ∙ c.in-Some.is)

pub returns-in-Some-clause-after : goal.returns-in-Some-clause-after
returns-in-Some-clause-after c =
    range_from (c.in-Some.place + 1) c.args.word.now ∙ after_place is_equals c.args.word.now c.in-Some.place (sym c.equals_at.ensures.place ∙ c.in-Some.is)
