use Rattle.std.proofs.Common.{◌≡◌, ◌++◌, drop}
use Rattle.wf_setup.proofs.Lines.{behind}
use Rattle.wf_setup.proofs.line.line.Given as goal

abbrev pub invariant-loop-word : goal.invariant-loop-word
invariant-loop-word l = l.first ++ behind l.others ≡ l.text.items ++ behind (drop l.word-index l.others)
