use Rattle.std.proofs.Common.{◌∙◌, arith}
use Rattle.wf_setup.proofs.Lines.{line_ends}
use Rattle.wf_setup.proofs.line.line.Goals as goal

pub returns : goal.returns
returns c =
    c.from_vec.ensures ∙ c.in_ok-push-2.ensures.items
    ∙ line_ends c.args.first.now c.loop-word.text.items c.args.others.now c.loop-word.word-index (omega (arith, c.loop-word-test.false)) c.loop-word.invariant
