use Rattle.std.proofs.Common.{◌≡◌, ◌-◌, ◌≤◌, length, drop}
use Rattle.wf_model.specs.NamelistTokens.{quoted}
use Rattle.wf_namelist.proofs.QuotedTexts.{behind}
use Rattle.wf_namelist.proofs.quoted.quoted.Given as goal

abbrev pub invariant-loop-at : goal.invariant-loop-at
invariant-loop-at l = record {
  within : l.at ≤ length l.bytes;
  same : behind l.text.items l.at (quoted l.quote (drop l.at l.bytes)) ≡ quoted l.quote l.bytes;
}

abbrev pub decreases-loop-at : goal.decreases-loop-at
decreases-loop-at l = length l.bytes - l.at
