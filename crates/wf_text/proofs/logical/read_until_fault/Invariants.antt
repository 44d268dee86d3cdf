use Rattle.std.proofs.Common.{◌≡◌, ◌+◌, length}
use Rattle.wf_model.specs.Lines.{lines_from, lines_read, physical}
use Rattle.wf_text.proofs.LogicalLines.{whole}
use Rattle.wf_text.proofs.logical.read_until_fault.Given as goal

abbrev pub invariant-loop-rest : goal.invariant-loop-rest
invariant-loop-rest l = record {
  same : whole l.done.items l.pending l.number (lines_from (l.number + 1) (physical l.rest)) ≡ lines_read l.fn.text;
}

abbrev pub decreases-loop-rest : goal.decreases-loop-rest
decreases-loop-rest l = length l.rest
