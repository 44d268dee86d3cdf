use Rattle.std.proofs.Common.{◌≡◌, ◌-◌, ◌≤◌, ◌++◌, true, length, drop}
use Rattle.wf_model.specs.NamelistTokens.{line_begins, scan}
use Rattle.wf_namelist.specs.Scanning.{where_of}
use Rattle.wf_namelist.proofs.scan.scan.Given as goal

abbrev pub invariant-loop-at : goal.invariant-loop-at
invariant-loop-at l = record {
  within : l.at ≤ length l.bytes;
  same : l.tokens.items ++ scan (where_of l.place) l.line l.apart 0 (drop l.at l.bytes) ≡ scan line_begins 1 true 0 l.fn.bytes;
}

abbrev pub decreases-loop-at : goal.decreases-loop-at
decreases-loop-at l = length l.bytes - l.at
