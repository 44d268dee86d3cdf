use Rattle.std.proofs.Common.{◌-◌, ◌≤◌}
use Rattle.wf_model.specs.Patches.{split_of}
use Rattle.wf_field.specs.Kept.{IsSamePatch}
use Rattle.wf_field.specs.Settings.{point_number}
use Rattle.wf_field.specs.Rows.{SetsKept, row_cells}
use Rattle.wf_field.proofs.memory.Memory.fill_row.Given as goal

abbrev pub decreases-loop-x : goal.decreases-loop-x
decreases-loop-x g l = l.bounds.columns - l.x

abbrev pub invariant-loop-x : goal.invariant-loop-x
invariant-loop-x g l = record {
  inside : l.x ≤ l.bounds.columns;
  same : IsSamePatch l.fn.self l.self;
  set : SetsKept g.N.RunName.run.plan (split_of g.N.RunName.layout) l.fn.self.domain l.fn.self.patch (point_number g.N.RunName.run.plan l.fn.self.domain l.field l.values) (row_cells l.field l.k l.j l.bounds.west l.x) l.fn.self.levels l.self.levels;
}
