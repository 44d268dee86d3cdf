use Rattle.std.proofs.Common.{sym, ◌∙◌}
use Rattle.wf_text.proofs.Digits.{past}
use Rattle.wf_text.proofs.forms.value_up_to.Goals as goal

pub returns-in_err-value : goal.returns-in_err-value
returns-in_err-value c =
    c.from_residual.ensures
    ∙ past c.args.digits.now c.loop-digit.digit-index c.args.most c.loop-digit.value c.loop-digit-test.true c.loop-digit.invariant.read (sym (c.in_err-value.was) ∙ c.with_digit.ensures)
