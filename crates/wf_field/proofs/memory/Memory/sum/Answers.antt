use Rattle.std.proofs.Common.{sym, subst, List}
use Rattle.std.specs.Prelude.{ℤ}
use Rattle.wf_field.specs.Kept.{AreModest}
use Rattle.wf_field.proofs.Summing.{memory_modest}
use Rattle.wf_field.proofs.memory.Memory.sum.Goals as goal

pub sum_levels-requires : goal.sum_levels-requires
sum_levels-requires g c =
    let w = c.self.inside in
    subst (λ (ls : List (List ℤ)). AreModest ls) (sym c.as_slice.ensures) (memory_modest g.N.RunName.run.plan g.N.RunName.layout w.domain w.patch w.boxes w.levels c.self.invariant)
