use Rattle.std.proofs.Common.{◌+◌, length}
use Rattle.wf_grid.specs.Spanned.{AreFilledTo, IsLevelLong}
use Rattle.wf_grid.proofs.phase.fill_plane.Given as goal

abbrev pub invariant-loop-y : goal.invariant-loop-y
invariant-loop-y g l = record {
  size : IsLevelLong l.old.plan.now l.old.number l.phase.writes (length l.scratch);
  filled : AreFilledTo l.old.plan.now g.M.Meanings.answer l.old.number l.old.levels.now l.old.step l.phase l.k (l.y + 1) l.scratch;
}
