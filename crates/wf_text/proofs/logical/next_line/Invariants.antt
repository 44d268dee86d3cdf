use Rattle.std.proofs.Common.{◌≡◌, ◌+◌, ◌-◌, ◌≤◌, [], length, drop}
use Rattle.wf_model.specs.Lines.{lines_from, physical}
use Rattle.wf_text.specs.Rest.{rest_read}
use Rattle.wf_text.proofs.LogicalLines.{whole}
use Rattle.wf_text.proofs.logical.next_line.Given as goal

abbrev pub invariant-loop-rest : goal.invariant-loop-rest
invariant-loop-rest l = record {
  same : whole [] l.pending l.number (lines_from (l.number + 1) (physical l.rest)) ≡ rest_read l.fn.before l.fn.text;
  behind : l.rest ≡ drop (length l.fn.text - length l.rest) l.fn.text;
  within : length l.rest ≤ length l.fn.text;
}

abbrev pub decreases-loop-rest : goal.decreases-loop-rest
decreases-loop-rest l = length l.rest
