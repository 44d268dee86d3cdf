use Rattle.std.proofs.Common.{ℕ, ◌+◌}
use Rattle.wf_rect.specs.Tiles.{rows_of}
use Rattle.wf_field.proofs.Joining.{flat_more}
use Rattle.wf_field.specs.Kept.{number_in}
use Rattle.wf_field.specs.Regions.{plane_cells, planes_cells}
use Rattle.wf_halo.proofs.Walking.{sent_more}
use Rattle.wf_halo.proofs.packing.pack_part.Goals as goal

pub loop-a-preserved : goal.loop-a-preserved
loop-a-preserved g c =
    let a = c.args in
    let p = a.part.now in
    let r = p.cells in
    let m = number_in g.N.RunName.run.plan g.N.RunName.layout a.memory.now in
    sent_more p m (planes_cells p.field r c.loop-a.a) (plane_cells p.field (r.k0 + c.loop-a.a) r.rect (rows_of r.rect)) (planes_cells p.field r _) a.values.now.items c.loop-a.values.items c.pack_plane.new.values.items
    (flat_more (λ (x : ℕ). plane_cells p.field (r.k0 + x) r.rect (rows_of r.rect)) c.loop-a.a)
    c.loop-a.invariant c.in_ok-pack_plane.ensures
