use Rattle.std.proofs.Common.{◌∙◌, sym, arith}
use Rattle.std.proofs.lemmas.Result.{err_from_is_err_and}
use Rattle.wf_text.proofs.WordScan.{blank, comment, word_read, word_fails, ended}
use Rattle.wf_text.specs.TextError.{fault_of}
use Rattle.wf_text.proofs.words.words_of.Goals as goal

pub loop-at-preserved-then-is_blank : goal.loop-at-preserved-then-is_blank
loop-at-preserved-then-is_blank c = record {
  within = omega arith;
  same = blank c.loop-at.words.items c.args.number c.loop-at.at c.args.line.now _ c.loop-at-test.true (sym c.is_blank.ensures ∙ c.if-is_blank.true) c.loop-at.invariant.same;
}

pub returns-then-first-eq35 : goal.returns-then-first-eq35
returns-then-first-eq35 c =
    comment c.loop-at.words.items c.args.number c.loop-at.at c.args.line.now _ c.loop-at-test.true (sym c.is_blank.ensures ∙ c.if-is_blank.false) c.if-first-eq35.true c.loop-at.invariant.same

pub returns-in_err-word : goal.returns-in_err-word
returns-in_err-word c =
    let p = err_from_is_err_and c.from_residual-in_err-word.result c.from_residual-in_err-word.ensures.1 in
    rw (p.1, p.2) (word_fails (fault_of c.in_err-word.field-0.0) c.loop-at.words.items c.args.number c.loop-at.at c.args.line.now _ c.loop-at-test.true (sym c.is_blank.ensures ∙ c.if-is_blank.false) c.if-first-eq35.false (rw (sym c.split_at.ensures.back) c.in_err-word.ensures.word) c.loop-at.invariant.same)

pub loop-at-preserved : goal.loop-at-preserved
loop-at-preserved c = record {
  within = omega (arith, c.in_ok-word.ensures.bound, c.split_at.ensures.back_len);
  same = rw c.in_ok-push.ensures.items (word_read c.loop-at.words.items c.args.number c.loop-at.at c.args.line.now _ c.in_ok-word.word c.in_ok-word.count c.loop-at-test.true (sym c.is_blank.ensures ∙ c.if-is_blank.false) c.if-first-eq35.false (rw (sym c.split_at.ensures.back) c.in_ok-word.ensures.word) c.in_ok-word.ensures.bound.0 c.loop-at.invariant.same);
}

pub returns : goal.returns
returns c = ended c.loop-at.words.items c.args.number c.loop-at.at c.args.line.now _ c.loop-at-test.false c.loop-at.invariant.same
