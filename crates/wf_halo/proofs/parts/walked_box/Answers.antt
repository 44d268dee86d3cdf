use Rattle.std.proofs.Common.{sym, subst}
use Rattle.wf_boxes.specs.Boxes.{HasNearEnds}
use Rattle.wf_halo.proofs.Tests.{near_max, near_min}
use Rattle.wf_halo.proofs.parts.walked_box.Goals as goal

pub returns-else-outside-clause-near : goal.returns-else-outside-clause-near
returns-else-outside-clause-near c =
    let a = c.args.reached in
    let b = c.args.own in
    let p = c.requires.reached in
    let q = c.requires.own in
    subst HasNearEnds (sym c.meet.ensures)
    (record {
      west = near_max a.i0 b.i0 p.west q.west;
      east = near_min a.i1 b.i1 p.east q.east;
      south = near_max a.j0 b.j0 p.south q.south;
      north = near_min a.j1 b.j1 p.north q.north;
    })
