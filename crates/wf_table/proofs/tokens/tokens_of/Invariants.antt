use Rattle.std.proofs.Common.{◌≡◌, ◌+◌, ◌-◌, ◌≤◌, ◌++◌, length, map, drop}
use Rattle.wf_model.specs.Tokens.{tokens_from, tokens_of}
use Rattle.wf_table.specs.Place.{token_of}
use Rattle.wf_table.proofs.tokens.tokens_of.Given as goal

abbrev pub invariant-loop-at : goal.invariant-loop-at
invariant-loop-at l = record {
  within : l.at ≤ length l.text;
  same : map token_of l.tokens.items ++ tokens_from (l.at + 1) 0 (drop l.at l.text) ≡ tokens_of l.text;
}

abbrev pub decreases-loop-at : goal.decreases-loop-at
decreases-loop-at l = length l.text - l.at
