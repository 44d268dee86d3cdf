use Rattle.std.proofs.Common.{◌≡◌, ℕ, ◌<◌, [], ◌∷◌, ◌++◌, sym, ap, subst, ◌∙◌, w64, to_z, of_z, rules, arith}
use Rattle.std.proofs.lemmas.Int.{to_z-of_z}
use Rattle.std.specs.Prelude.{ℤ, pos, ◌+ℤ◌}
use Rattle.wf_rect.proofs.Stored.{count_of}
use Rattle.wf_laws.proofs.Cells.{span-holds}
use Rattle.wf_boxes.specs.Boxes.{IsNear, box_of}
use Rattle.wf_boxes.proofs.Ends.{near_count}
use Rattle.wf_field.specs.Kept.{number_in}
use Rattle.wf_field.specs.Regions.{columns_of}
use Rattle.wf_field.specs.Rows.{row_cells}
use Rattle.wf_field.specs.Settings.{cell_at}
use Rattle.wf_halo.specs.Walks.{IsColumnOf, sent_numbers}
use Rattle.wf_halo.proofs.Walking.{sent_more, row_more}
use Rattle.wf_halo.proofs.packing.pack_row.Goals as goal

pub count-x-end-requires : goal.count-x-end-requires
count-x-end-requires g c =
    let r = c.args.part.now.cells.rect in
    let ends = (c.requires.walked).ends in
    let few = near_count _ _ (subst IsNear (sym (to_z-of_z w64 r.i0 (search rules))) ends.west) (subst IsNear (sym (to_z-of_z w64 r.i1 (search rules))) ends.east) in
    omega (arith, few)

pub pack_cell-requires-clause-column : goal.pack_cell-requires-clause-column
pack_cell-requires-clause-column g c =
    let r = c.args.part.now.cells.rect in
    let columns : c.count-x-end.result ≡ columns_of r = count_of r.i0 r.i1 _ (search rules) (search rules) c.count-x-end.ensures in
    let at = to_z-of_z w64 c.moved.result (search rules) ∙ c.moved.ensures ∙ ap (λ (z : ℤ). z +ℤ pos c.loop-x.x) (to_z-of_z w64 r.i0 (search rules)) in
    subst (IsColumnOf c.args.part.now) (sym at) (span-holds (box_of r).x c.loop-x.x (subst (λ (n : ℕ). c.loop-x.x < n) columns c.loop-x-test.true))

pub loop-x-preserved : goal.loop-x-preserved
loop-x-preserved g c =
    let a = c.args in
    let p = a.part.now in
    let r = p.cells.rect in
    let m = number_in g.N.RunName.run.plan g.N.RunName.layout a.memory.now in
    let at = to_z-of_z w64 c.moved.result (search rules) ∙ c.moved.ensures ∙ ap (λ (z : ℤ). z +ℤ pos c.loop-x.x) (to_z-of_z w64 r.i0 (search rules)) in
    let j = to_z w64 (of_z w64 a.j) in
    sent_more p m (row_cells p.field a.k j r.i0 c.loop-x.x) (cell_at p.field a.k j _ ∷ []) (row_cells p.field a.k j r.i0 _) a.values.now.items c.loop-x.values.items c.pack_cell.new.values.items
    (row_more p.field a.k c.loop-x.x j r.i0 ∙ (λ n. row_cells p.field a.k j r.i0 c.loop-x.x ++ cell_at p.field a.k j (sym at n) ∷ []))
    c.loop-x.invariant c.in_ok-pack_cell.ensures

pub returns : goal.returns
returns g c =
    let a = c.args in
    let p = a.part.now in
    let r = p.cells.rect in
    let m = number_in g.N.RunName.run.plan g.N.RunName.layout a.memory.now in
    let columns : c.count-x-end.result ≡ columns_of r = count_of r.i0 r.i1 _ (search rules) (search rules) c.count-x-end.ensures in
    let more = c.loop-x-test.false in
    let most = c.loop-x.auto.x-end in
    let all : c.loop-x.x ≡ columns_of r = omega (arith, more, most, columns) in
    c.loop-x.invariant ∙ (λ n. a.values.now.items ++ sent_numbers p m (row_cells p.field a.k (to_z-of_z w64 a.j c.ranges.j n) r.i0 (all n)))
