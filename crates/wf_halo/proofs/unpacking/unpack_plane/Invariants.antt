use Rattle.std.proofs.Common.{◌≡◌, length}
use Rattle.wf_field.specs.Kept.{IsSamePatch}
use Rattle.wf_field.specs.Regions.{plane_cells}
use Rattle.wf_halo.specs.Walks.{SetsBy, sent}
use Rattle.wf_halo.proofs.unpacking.unpack_plane.Given as goal

abbrev pub invariant-loop-y : goal.invariant-loop-y
invariant-loop-y g l = record {
  used : l.used ≡ length (sent l.part (plane_cells l.part.field l.k l.part.cells.rect l.y));
  same : IsSamePatch l.fn.memory l.memory;
  set : SetsBy g.N.RunName.run.plan g.N.RunName.layout l.values (sent l.part (plane_cells l.part.field l.k l.part.cells.rect l.y)) l.fn.memory l.memory;
}
