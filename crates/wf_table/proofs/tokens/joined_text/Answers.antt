use Rattle.std.proofs.Common.{◌+◌, ◌++◌, drop, ap, sym, ◌∙◌}
use Rattle.wf_model.specs.declared.text.Word.{Word}
use Rattle.wf_table.specs.Joined.{behind_blank}
use Rattle.wf_table.proofs.JoinedWords.{rest, joined_more}
use Rattle.wf_table.proofs.tokens.joined_text.Goals as goal

pub loop-i-preserved : goal.loop-i-preserved
loop-i-preserved c =
    let words = c.as_slice-words.result.now in
    ap (λ bs. bs ++ rest (c.loop-i.i + 1) (drop (c.loop-i.i + 1) words))
    (c.in_ok-push_word.ensures ∙ ap (λ w. c.loop-i.text.items ++ behind_blank c.loop-i.i w) c.as_slice.ensures
    ∙ ap (λ (w : Word). c.loop-i.text.items ++ behind_blank c.loop-i.i w.text) (sym c.index-words-i.is))
    ∙ joined_more c.loop-i.text.items _ c.loop-i.i words c.index-words-i.result c.loop-i-test.true c.index-words-i.is c.loop-i.invariant
