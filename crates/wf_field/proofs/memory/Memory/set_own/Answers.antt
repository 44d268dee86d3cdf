use Rattle.std.proofs.Common.{List, length, take, drop, ◌++◌, sym, subst, w64, w32}
use Rattle.std.proofs.lemmas.Int.{to_z-of_z}
use Rattle.std.specs.Prelude.{ℤ}
use Rattle.wf_model.specs.Patches.{Cell, split_of}
use Rattle.wf_model.specs.Agreement.{IsOwnCell}
use Rattle.wf_model.specs.Kept.{IsKeptCell}
use Rattle.wf_model.specs.Kept.{SetsExactly}
use Rattle.wf_patch_laws.proofs.KeptCells.{own_kept}
use Rattle.wf_field.specs.Kept.{KeptMemory, IsMemory}
use Rattle.wf_field.specs.Settings.{cell_at, cell_setting}
use Rattle.wf_field.proofs.Finding.{cell_there}
use Rattle.wf_field.proofs.Changing.{lent_kept}
use Rattle.wf_field.proofs.Writing.{long, put_memory, put_exact}
use Rattle.wf_field.proofs.memory.Memory.set_own.Goals as goal

pub put_in-requires-clause-cell : goal.put_in-requires-clause-cell
put_in-requires-clause-cell g c =
    let w = c.self.inside in
    let plan = g.N.RunName.run.plan in
    let layout = g.N.RunName.layout in
    let x : Cell = cell_at c.args.field c.args.k c.args.j c.args.i in
    let kept : IsKeptCell plan (split_of layout) w.domain w.patch x =
    own_kept plan layout w.domain w.patch x c.self.invariant.sound c.requires.level (subst (λ (v : KeptMemory). IsOwnCell plan (split_of layout) v.domain v.patch x) (sym c.self.view_is) c.requires.own) in
    cell_there plan layout w.domain w.patch w.boxes w.levels c.self.invariant _ c.as_slice.ensures x kept _ _ (to_z-of_z w64 c.args.j c.ranges.j) (to_z-of_z w64 c.args.i c.ranges.i)

pub invariant_of-self : goal.invariant_of-self
invariant_of-self g c =
    let w = c.self.inside in
    let plan = g.N.RunName.run.plan in
    let layout = g.N.RunName.layout in
    let x : Cell = cell_at c.args.field c.args.k c.args.j c.args.i in
    let kept : IsKeptCell plan (split_of layout) w.domain w.patch x =
    own_kept plan layout w.domain w.patch x c.self.invariant.sound c.requires.level (subst (λ (v : KeptMemory). IsOwnCell plan (split_of layout) v.domain v.patch x) (sym c.self.view_is) c.requires.own) in
    lent_kept (λ (ls : List (List ℤ)). IsMemory plan layout w.domain w.patch w.boxes ls) w.levels c.put_in.new.levels
    (long plan layout w.domain w.patch w.boxes w.levels c.self.invariant x kept c.args.value _ (to_z-of_z w32 c.args.value c.ranges.value) _ _ c.put_in.new.levels c.as_slice.ensures c.as_mut_slice.ensures.value _ _
    (to_z-of_z w64 c.args.j c.ranges.j) (to_z-of_z w64 c.args.i c.ranges.i) c.put_in.ensures)
    (put_memory plan layout w.domain w.patch w.boxes w.levels c.self.invariant x kept c.args.value _ (to_z-of_z w32 c.args.value c.ranges.value) _ _ c.put_in.new.levels c.as_slice.ensures c.as_mut_slice.ensures.value _ _
    (to_z-of_z w64 c.args.j c.ranges.j) (to_z-of_z w64 c.args.i c.ranges.i) c.put_in.ensures)

pub returns-clause-set : goal.returns-clause-set
returns-clause-set g c =
    let w = c.self.inside in
    let plan = g.N.RunName.run.plan in
    let layout = g.N.RunName.layout in
    let x : Cell = cell_at c.args.field c.args.k c.args.j c.args.i in
    let kept : IsKeptCell plan (split_of layout) w.domain w.patch x =
    own_kept plan layout w.domain w.patch x c.self.invariant.sound c.requires.level (subst (λ (v : KeptMemory). IsOwnCell plan (split_of layout) v.domain v.patch x) (sym c.self.view_is) c.requires.own) in
    subst (λ (v : KeptMemory). SetsExactly plan (split_of layout) v.domain v.patch (cell_setting x c.args.value) v.levels (take (length w.levels) (c.put_in.new.levels ++ drop (length c.put_in.new.levels) w.levels))) c.self.view_is
    (lent_kept (λ (ls : List (List ℤ)). SetsExactly plan (split_of layout) w.domain w.patch (cell_setting x c.args.value) w.levels ls) w.levels c.put_in.new.levels
    (long plan layout w.domain w.patch w.boxes w.levels c.self.invariant x kept c.args.value _ (to_z-of_z w32 c.args.value c.ranges.value) _ _ c.put_in.new.levels c.as_slice.ensures c.as_mut_slice.ensures.value _ _
    (to_z-of_z w64 c.args.j c.ranges.j) (to_z-of_z w64 c.args.i c.ranges.i) c.put_in.ensures)
    (put_exact plan layout w.domain w.patch w.boxes w.levels c.self.invariant x kept c.args.value _ (to_z-of_z w32 c.args.value c.ranges.value) _ _ c.put_in.new.levels c.as_slice.ensures c.as_mut_slice.ensures.value _ _
    (to_z-of_z w64 c.args.j c.ranges.j) (to_z-of_z w64 c.args.i c.ranges.i) c.put_in.ensures))
