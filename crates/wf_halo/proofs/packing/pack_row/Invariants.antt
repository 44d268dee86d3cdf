use Rattle.std.proofs.Common.{◌≡◌, ◌++◌}
use Rattle.wf_field.specs.Kept.{number_in}
use Rattle.wf_field.specs.Rows.{row_cells}
use Rattle.wf_halo.specs.Walks.{sent_numbers}
use Rattle.wf_halo.proofs.packing.pack_row.Given as goal

abbrev pub invariant-loop-x : goal.invariant-loop-x
invariant-loop-x g l = l.values.items ≡ l.fn.values.items ++ sent_numbers l.part (number_in g.N.RunName.run.plan g.N.RunName.layout l.memory) (row_cells l.part.field l.k l.j l.part.cells.rect.i0 l.x)
