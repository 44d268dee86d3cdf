use Rattle.wf_grid.proofs.SetRows.{set_row, other_row}
use Rattle.wf_grid.proofs.phase.span_of.Goals as goal

pub returns-then-is_set_row : goal.returns-then-is_set_row
returns-then-is_set_row c =
    let old = c.args.old.now in
    set_row old.plan.now old.number c.args.phase.now c.args.k c.args.j c.is_set_row.result c.is_set_row.ensures c.inner_span.result old.sizes.periodic_x c.args.extents.columns old.sizes_are.periodic_x c.requires.columns c.if-is_set_row.true c.inner_span.ensures

pub returns-else-is_set_row : goal.returns-else-is_set_row
returns-else-is_set_row c =
    let old = c.args.old.now in
    other_row old.plan.now old.number c.args.phase.now c.args.k c.args.j c.is_set_row.result c.is_set_row.ensures c.no_span.result c.if-is_set_row.false c.no_span.ensures
