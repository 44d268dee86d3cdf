use Rattle.std.proofs.Common.{◌+◌, length}
use Rattle.wf_model.specs.Plans.{nx, ny}
use Rattle.wf_grid.specs.Levels.{place_in}
use Rattle.wf_grid.specs.Filled.{IsFilled}
use Rattle.wf_grid.specs.Spanned.{IsLevelLong}
use Rattle.wf_grid.proofs.phase.fill_row.Given as goal

abbrev pub invariant-loop-x : goal.invariant-loop-x
invariant-loop-x g l = record {
  size : IsLevelLong l.old.plan.now l.old.number l.phase.writes (length l.scratch);
  filled : IsFilled l.old.plan.now g.M.Meanings.answer l.old.number l.old.levels.now l.old.step l.phase (place_in (ny l.old.plan.now l.old.number l.phase.writes) (nx l.old.plan.now l.old.number l.phase.writes) l.k l.j 1 + l.x) l.scratch;
}
