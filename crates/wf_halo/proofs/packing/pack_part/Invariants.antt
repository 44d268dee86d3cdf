use Rattle.std.proofs.Common.{◌≡◌, ◌++◌}
use Rattle.wf_field.specs.Kept.{number_in}
use Rattle.wf_field.specs.Regions.{planes_cells}
use Rattle.wf_halo.specs.Walks.{sent_numbers}
use Rattle.wf_halo.proofs.packing.pack_part.Given as goal

abbrev pub invariant-loop-a : goal.invariant-loop-a
invariant-loop-a g l = l.values.items ≡ l.fn.values.items ++ sent_numbers l.part (number_in g.N.RunName.run.plan g.N.RunName.layout l.memory) (planes_cells l.part.field l.part.cells l.a)
