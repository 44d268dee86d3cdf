use Rattle.wf_model.specs.Patches.{split_of}
use Rattle.wf_field.specs.Kept.{IsSamePatch}
use Rattle.wf_field.specs.Settings.{point_number}
use Rattle.wf_field.specs.Rows.{SetsKept, box_planes}
use Rattle.wf_field.proofs.memory.Memory.fill.Given as goal

abbrev pub invariant-loop-k : goal.invariant-loop-k
invariant-loop-k g l = record {
  same : IsSamePatch l.fn.self l.self;
  set : SetsKept g.N.RunName.run.plan (split_of g.N.RunName.layout) l.fn.self.domain l.fn.self.patch (point_number g.N.RunName.run.plan l.fn.self.domain l.field l.values) (box_planes l.field l.bounds l.k) l.fn.self.levels l.self.levels;
}
