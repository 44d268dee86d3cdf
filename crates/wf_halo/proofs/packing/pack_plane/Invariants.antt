use Rattle.std.proofs.Common.{◌≡◌, ◌++◌}
use Rattle.wf_field.specs.Kept.{number_in}
use Rattle.wf_field.specs.Regions.{plane_cells}
use Rattle.wf_halo.specs.Walks.{sent_numbers}
use Rattle.wf_halo.proofs.packing.pack_plane.Given as goal

abbrev pub invariant-loop-y : goal.invariant-loop-y
invariant-loop-y g l = l.values.items ≡ l.fn.values.items ++ sent_numbers l.part (number_in g.N.RunName.run.plan g.N.RunName.layout l.memory) (plane_cells l.part.field l.k l.part.cells.rect l.y)
