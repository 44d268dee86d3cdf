use Rattle.std.proofs.Common.{◌≡◌, ◌+◌, ◌*◌, ◌^◌, ◌≤◌, take}
use Rattle.wf_model.specs.Letters.{digits_value}
use Rattle.wf_stamp.proofs.texts.number.Given as goal

abbrev pub invariant-loop-digit : goal.invariant-loop-digit
invariant-loop-digit l = record {
  value : l.number ≡ digits_value (take l.digit-index l.digits);
  bound : l.number + 23 ≤ 23 * 10 ^ l.digit-index;
}
