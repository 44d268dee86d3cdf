use Rattle.std.proofs.Common.{◌+◌, length}
use Rattle.wf_grid.specs.Spanned.{AreFilledTo, IsLevelLong}
use Rattle.wf_grid.proofs.phase.fill.Given as goal

abbrev pub invariant-loop-z : goal.invariant-loop-z
invariant-loop-z g l = record {
  size : IsLevelLong l.plan l.number l.phase.writes (length l.scratch);
  filled : AreFilledTo l.plan g.M.Meanings.answer l.number l.levels l.step l.phase (l.z + 1) 1 l.scratch;
}
