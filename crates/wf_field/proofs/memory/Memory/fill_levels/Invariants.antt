use Rattle.wf_model.specs.Patches.{split_of}
use Rattle.wf_model.specs.Kept.{SetsExactly}
use Rattle.wf_field.specs.Kept.{IsSamePatch}
use Rattle.wf_field.specs.Settings.{levels_setting}
use Rattle.wf_field.proofs.memory.Memory.fill_levels.Given as goal

abbrev pub invariant-loop-field : goal.invariant-loop-field
invariant-loop-field g l = record {
  same : IsSamePatch l.fn.self l.self;
  set : SetsExactly g.N.RunName.run.plan (split_of g.N.RunName.layout) l.fn.self.domain l.fn.self.patch (levels_setting g.N.RunName.run.plan l.fn.self.domain l.lists l.field) l.fn.self.levels l.self.levels;
}
