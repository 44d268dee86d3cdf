use Rattle.std.proofs.Common.{◌∙◌, sym, ap₂, ◌++◌}
use Rattle.wf_registry_columns.proofs.JoinedWords.{joined_more}
use Rattle.wf_registry_columns.proofs.columns.joined_groups.Goals as goal

pub loop-word-preserved : goal.loop-word-preserved
loop-word-preserved c =
    c.in_ok-extend_from_slice.ensures.items
    ∙ ap₂ (λ a b. a ++ b) c.loop-word.invariant c.as_slice.ensures
    ∙ sym (joined_more c.behind_two-tail.result.now c.loop-word.word-index c.word-item.result c.loop-word-test.true c.word-item.is)
