use Rattle.wf_model.specs.Demo.{demo_value}
use Rattle.wf_top.proofs.DomainLaws.{size_then, grid_along}
use Rattle.wf_top.proofs.patches.Patches.advance.Goals as goal

pub step_each-requires-clause-grid : goal.step_each-requires-clause-grid
step_each-requires-clause-grid c =
    let old = c.args.self.now in
    let west = c.exchange_west.new.self in
    let east = c.exchange_east.new.self in
    let n = c.requires.grid.0 in
    let m = c.requires.grid.1 in
    let g = demo_value old.nx old.ny n in
    let h = demo_value old.nx old.ny m in (
      n,
      grid_along old east n n (size_then old west east c.exchange_west.ensures.size c.exchange_east.ensures.size)
          (c.exchange_east.ensures.exchanged g g h (c.exchange_west.ensures.exchanged g h h c.requires.grid.2)),
    )

pub returns-clause-stepped : goal.returns-clause-stepped
returns-clause-stepped c = λ n m held.
    let old = c.args.self.now in
    let west = c.exchange_west.new.self in
    let east = c.exchange_east.new.self in
    let g = demo_value old.nx old.ny n in
    let h = demo_value old.nx old.ny m in
    c.step_each.ensures.stepped n (grid_along old east n n (size_then old west east c.exchange_west.ensures.size c.exchange_east.ensures.size)
    (c.exchange_east.ensures.exchanged g g h (c.exchange_west.ensures.exchanged g h h held)))
