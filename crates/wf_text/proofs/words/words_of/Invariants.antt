use Rattle.std.proofs.Common.{◌≡◌, ◌+◌, ◌-◌, ◌≤◌, length, drop}
use Rattle.wf_model.specs.Lines.{words_from}
use Rattle.wf_model.proofs.ReadingLemmas.{with_front}
use Rattle.wf_text.proofs.words.words_of.Given as goal

abbrev pub invariant-loop-at : goal.invariant-loop-at
invariant-loop-at l = record {
  within : l.at ≤ length l.line;
  same : with_front l.words.items (words_from l.number (l.at + 1) 0 (drop l.at l.line)) ≡ words_from l.number 1 0 l.line;
}

abbrev pub decreases-loop-at : goal.decreases-loop-at
decreases-loop-at l = length l.line - l.at
