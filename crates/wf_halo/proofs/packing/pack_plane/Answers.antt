use Rattle.std.proofs.Common.{◌≡◌, ℕ, ◌<◌, ◌++◌, sym, ap, subst, ◌∙◌, w64, rules, arith}
use Rattle.std.proofs.lemmas.Int.{to_z-of_z}
use Rattle.std.specs.Prelude.{ℤ, pos, ◌+ℤ◌}
use Rattle.wf_rect.proofs.Stored.{count_of}
use Rattle.wf_rect.specs.Tiles.{rows_of}
use Rattle.wf_laws.proofs.Cells.{span-holds}
use Rattle.wf_boxes.specs.Boxes.{box_of}
use Rattle.wf_field.proofs.Joining.{flat_more}
use Rattle.wf_field.specs.Kept.{number_in}
use Rattle.wf_field.specs.Regions.{columns_of, plane_cells}
use Rattle.wf_field.specs.Rows.{row_cells}
use Rattle.wf_halo.specs.Walks.{IsRowOf, sent_numbers}
use Rattle.wf_halo.proofs.Walking.{sent_more}
use Rattle.wf_halo.proofs.packing.pack_plane.Goals as goal

pub pack_row-requires-clause-row : goal.pack_row-requires-clause-row
pack_row-requires-clause-row g c =
    let r = c.args.part.now.cells.rect in
    let rows : c.count-y-end.result ≡ rows_of r = count_of r.j0 r.j1 _ (search rules) (search rules) c.count-y-end.ensures in
    let at = to_z-of_z w64 c.moved.result (search rules) ∙ c.moved.ensures ∙ ap (λ (z : ℤ). z +ℤ pos c.loop-y.y) (to_z-of_z w64 r.j0 (search rules)) in
    subst (IsRowOf c.args.part.now) (sym at) (span-holds (box_of r).y c.loop-y.y (subst (λ (n : ℕ). c.loop-y.y < n) rows c.loop-y-test.true))

pub loop-y-preserved : goal.loop-y-preserved
loop-y-preserved g c =
    let a = c.args in
    let p = a.part.now in
    let r = p.cells.rect in
    let m = number_in g.N.RunName.run.plan g.N.RunName.layout a.memory.now in
    let at = to_z-of_z w64 c.moved.result (search rules) ∙ c.moved.ensures ∙ ap (λ (z : ℤ). z +ℤ pos c.loop-y.y) (to_z-of_z w64 r.j0 (search rules)) in
    sent_more p m (plane_cells p.field a.k r c.loop-y.y) (row_cells p.field a.k _ r.i0 (columns_of r)) (plane_cells p.field a.k r _) a.values.now.items c.loop-y.values.items c.pack_row.new.values.items
    (flat_more (λ (y : ℕ). row_cells p.field a.k (r.j0 +ℤ pos y) r.i0 (columns_of r)) c.loop-y.y ∙ (λ n. plane_cells p.field a.k r c.loop-y.y ++ row_cells p.field a.k (sym at n) r.i0 (columns_of r)))
    c.loop-y.invariant c.in_ok-pack_row.ensures

pub returns : goal.returns
returns g c =
    let a = c.args in
    let p = a.part.now in
    let r = p.cells.rect in
    let m = number_in g.N.RunName.run.plan g.N.RunName.layout a.memory.now in
    let rows : c.count-y-end.result ≡ rows_of r = count_of r.j0 r.j1 _ (search rules) (search rules) c.count-y-end.ensures in
    let more = c.loop-y-test.false in
    let most = c.loop-y.auto.y-end in
    let all : c.loop-y.y ≡ rows_of r = omega (arith, more, most, rows) in
    c.loop-y.invariant ∙ ap (λ (n : ℕ). a.values.now.items ++ sent_numbers p m (plane_cells p.field a.k r n)) all
