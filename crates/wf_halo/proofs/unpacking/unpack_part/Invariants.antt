use Rattle.std.proofs.Common.{◌≡◌, length}
use Rattle.wf_field.specs.Kept.{IsSamePatch}
use Rattle.wf_field.specs.Regions.{planes_cells}
use Rattle.wf_halo.specs.Walks.{SetsBy, sent}
use Rattle.wf_halo.proofs.unpacking.unpack_part.Given as goal

abbrev pub invariant-loop-a : goal.invariant-loop-a
invariant-loop-a g l = record {
  used : l.used ≡ length (sent l.part (planes_cells l.part.field l.part.cells l.a));
  same : IsSamePatch l.fn.memory l.memory;
  set : SetsBy g.N.RunName.run.plan g.N.RunName.layout l.values (sent l.part (planes_cells l.part.field l.part.cells l.a)) l.fn.memory l.memory;
}
