use Rattle.std.proofs.Common.{◌≡◌, ◌≤◌, ◌*◌, sum, take}
use Rattle.wf_top.proofs.frames.byte_sum.Given as goal

abbrev pub invariant-loop-b : goal.invariant-loop-b
invariant-loop-b l = (l.total ≡ sum (take l.b-index l.bytes)) × (l.total ≤ 255 * l.b-index)
