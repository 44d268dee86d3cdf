use Rattle.std.proofs.Common.{◌≡◌, ◌≤◌, take}
use Rattle.wf_model.specs.Letters.{digits_value}
use Rattle.wf_top.proofs.words.digits_value.Given as goal

abbrev pub invariant-loop-b : goal.invariant-loop-b
invariant-loop-b l = record {
  value : l.n ≡ digits_value (take l.b-index l.word);
  none : l.b-index ≡ 0 → l.n ≤ 0;
  one : l.b-index ≡ 1 → l.n ≤ 300;
  two : l.b-index ≡ 2 → l.n ≤ 4000;
  three : l.b-index ≡ 3 → l.n ≤ 50000;
  four : l.b-index ≡ 4 → l.n ≤ 600000;
}
