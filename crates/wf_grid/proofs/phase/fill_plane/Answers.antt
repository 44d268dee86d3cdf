use Rattle.std.proofs.Common.{◌≡◌, arith}
use Rattle.wf_model.specs.Plans.{ny}
use Rattle.wf_grid.proofs.RowFilling.{plane_ends}
use Rattle.wf_grid.proofs.phase.fill_plane.Goals as goal

pub returns-clause-filled : goal.returns-clause-filled
returns-clause-filled g c none =
    let old = c.args.old.now in
    let all : c.loop-y.y ≡ ny old.plan.now old.number c.args.phase.now.writes = omega (arith, c.requires.extents.rows) in
    plane_ends old.plan.now g.M.Meanings.answer old.number old.levels.now old.step c.args.phase.now c.loop-y.scratch c.args.k c.loop-y.y c.requires.in_z.0 all c.loop-y.invariant.filled
