use Rattle.std.proofs.Common.{vec_len}
use Rattle.wf_registry_lines.proofs.SpareEndifs.{IsMarked}
use Rattle.wf_registry_lines.proofs.ahead.ahead.Given as goal

abbrev pub invariant-loop-line : goal.invariant-loop-line
invariant-loop-line l = IsMarked l.faulty l.lines.items l.initial.lines.items l.ahead.items l.spare

abbrev pub decreases-loop-line : goal.decreases-loop-line
decreases-loop-line l = vec_len l.lines
