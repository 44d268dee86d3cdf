use Rattle.std.proofs.Common.{◌<◌, List, length, take, drop, ◌++◌, sym, subst, All, w64, rules}
use Rattle.std.proofs.lemmas.Int.{to_z-of_z}
use Rattle.std.specs.Prelude.{ℤ}
use Rattle.wf_model.specs.Patches.{split_of}
use Rattle.wf_model.specs.Kept.{IsKeptCell}
use Rattle.wf_field.specs.Kept.{KeptMemory, IsMemory}
use Rattle.wf_field.specs.Rows.{SetsKept, row_cells, row_number}
use Rattle.wf_field.proofs.Changing.{lent_kept}
use Rattle.wf_field.proofs.Keeping.{row_there, row_long, row_kept, row_memory}
use Rattle.wf_field.proofs.memory.Memory.set_row.Goals as goal

pub put_row_in-requires-clause-row : goal.put_row_in-requires-clause-row
put_row_in-requires-clause-row g c =
    let w = c.self.inside in
    let a = c.args in
    let plan = g.N.RunName.run.plan in
    let layout = g.N.RunName.layout in
    let some : 0 < length a.values.now = search rules in
    let all = subst (λ (v : KeptMemory). All (IsKeptCell plan (split_of layout) v.domain v.patch) (row_cells a.field a.k a.j a.i (length a.values.now))) (sym c.self.view_is) c.requires.row in
    row_there plan layout w.domain w.patch w.boxes w.levels c.self.invariant _ c.as_slice.ensures a.field a.k (length a.values.now) a.j a.i _ _ (to_z-of_z w64 a.j c.ranges.j) (to_z-of_z w64 a.i c.ranges.i) some all

pub invariant_of-self : goal.invariant_of-self
invariant_of-self g c =
    let w = c.self.inside in
    let a = c.args in
    let plan = g.N.RunName.run.plan in
    let layout = g.N.RunName.layout in
    let some : 0 < length a.values.now = search rules in
    let all = subst (λ (v : KeptMemory). All (IsKeptCell plan (split_of layout) v.domain v.patch) (row_cells a.field a.k a.j a.i (length a.values.now))) (sym c.self.view_is) c.requires.row in
    lent_kept (λ (ls : List (List ℤ)). IsMemory plan layout w.domain w.patch w.boxes ls) w.levels c.put_row_in.new.levels
    (row_long plan layout w.domain w.patch w.boxes w.levels c.self.invariant a.field a.k a.j a.i a.values.now c.requires.level some all _ _ c.put_row_in.new.levels c.as_slice.ensures c.as_mut_slice.ensures.value _ _
    (to_z-of_z w64 a.j c.ranges.j) (to_z-of_z w64 a.i c.ranges.i) c.put_row_in.ensures)
    (row_memory plan layout w.domain w.patch w.boxes w.levels c.self.invariant a.field a.k a.j a.i a.values.now c.requires.level some all _ _ c.put_row_in.new.levels c.as_slice.ensures c.as_mut_slice.ensures.value _ _
    (to_z-of_z w64 a.j c.ranges.j) (to_z-of_z w64 a.i c.ranges.i) c.put_row_in.ensures)

pub returns-clause-set : goal.returns-clause-set
returns-clause-set g c =
    let w = c.self.inside in
    let a = c.args in
    let plan = g.N.RunName.run.plan in
    let layout = g.N.RunName.layout in
    let some : 0 < length a.values.now = search rules in
    let all = subst (λ (v : KeptMemory). All (IsKeptCell plan (split_of layout) v.domain v.patch) (row_cells a.field a.k a.j a.i (length a.values.now))) (sym c.self.view_is) c.requires.row in
    subst (λ (v : KeptMemory). SetsKept plan (split_of layout) v.domain v.patch (row_number a.i a.values.now) (row_cells a.field a.k a.j a.i (length a.values.now)) v.levels (take (length w.levels) (c.put_row_in.new.levels ++ drop (length c.put_row_in.new.levels) w.levels))) c.self.view_is
    (lent_kept (λ (ls : List (List ℤ)). SetsKept plan (split_of layout) w.domain w.patch (row_number a.i a.values.now) (row_cells a.field a.k a.j a.i (length a.values.now)) w.levels ls) w.levels c.put_row_in.new.levels
    (row_long plan layout w.domain w.patch w.boxes w.levels c.self.invariant a.field a.k a.j a.i a.values.now c.requires.level some all _ _ c.put_row_in.new.levels c.as_slice.ensures c.as_mut_slice.ensures.value _ _
    (to_z-of_z w64 a.j c.ranges.j) (to_z-of_z w64 a.i c.ranges.i) c.put_row_in.ensures)
    (row_kept plan layout w.domain w.patch w.boxes w.levels c.self.invariant a.field a.k a.j a.i a.values.now c.requires.level some all _ _ c.put_row_in.new.levels c.as_slice.ensures c.as_mut_slice.ensures.value _ _
    (to_z-of_z w64 a.j c.ranges.j) (to_z-of_z w64 a.i c.ranges.i) c.put_row_in.ensures))
