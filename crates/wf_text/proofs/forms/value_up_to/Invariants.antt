use Rattle.std.proofs.Common.{◌≡◌, ◌≤◌, take}
use Rattle.wf_model.specs.Letters.{digits_value}
use Rattle.wf_text.proofs.forms.value_up_to.Given as goal

abbrev pub invariant-loop-digit : goal.invariant-loop-digit
invariant-loop-digit l = record {
  read : l.value ≡ digits_value (take l.digit-index l.digits);
  within : l.value ≤ l.most;
}
