use Rattle.std.proofs.Common.{sym, subst, List}
use Rattle.std.specs.Prelude.{ℤ}
use Rattle.wf_field.specs.Kept.{AreModest}
use Rattle.wf_field.proofs.Summing.{memory_modest}
use Rattle.wf_field.proofs.memory.Memory.cells.Goals as goal

pub count_cells-requires : goal.count_cells-requires
count_cells-requires g c =
    let w = c.self.inside in
    subst (λ (ls : List (List ℤ)). AreModest ls) (sym c.as_slice.ensures) (memory_modest g.N.RunName.run.plan g.N.RunName.layout w.domain w.patch w.boxes w.levels c.self.invariant)
