use Rattle.std.proofs.Common.{◌≡◌, length}
use Rattle.wf_field.specs.Kept.{IsSamePatch}
use Rattle.wf_field.specs.Rows.{row_cells}
use Rattle.wf_halo.specs.Walks.{SetsBy, sent}
use Rattle.wf_halo.proofs.unpacking.unpack_row.Given as goal

abbrev pub invariant-loop-x : goal.invariant-loop-x
invariant-loop-x g l = record {
  used : l.used ≡ length (sent l.part (row_cells l.part.field l.k l.j l.part.cells.rect.i0 l.x));
  same : IsSamePatch l.fn.memory l.memory;
  set : SetsBy g.N.RunName.run.plan g.N.RunName.layout l.values (sent l.part (row_cells l.part.field l.k l.j l.part.cells.rect.i0 l.x)) l.fn.memory l.memory;
}
