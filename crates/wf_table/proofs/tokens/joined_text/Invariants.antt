use Rattle.std.proofs.Common.{◌≡◌, ◌++◌, drop}
use Rattle.wf_model.specs.Tokens.{joined_text}
use Rattle.wf_table.proofs.JoinedWords.{rest}
use Rattle.wf_table.proofs.tokens.joined_text.Given as goal

abbrev pub invariant-loop-i : goal.invariant-loop-i
invariant-loop-i l = l.text.items ++ rest l.i (drop l.i l.words) ≡ joined_text l.fn.line
