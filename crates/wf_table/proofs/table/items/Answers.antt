use Rattle.std.proofs.Common.{◌+◌, drop, ap, sym, ◌∙◌}
use Rattle.std.proofs.lemmas.Result.{err_from_is_err_and}
use Rattle.wf_model.specs.Table.{items_from}
use Rattle.wf_table.specs.Faults.{fault_of}
use Rattle.wf_table.proofs.ItemLines.{item_more, item_fails, items_all}
use Rattle.wf_table.proofs.table.items.Goals as goal

pub returns-in_err-item : goal.returns-in_err-item
returns-in_err-item c =
    let p = err_from_is_err_and c.from_residual.result c.from_residual.ensures.1 in
    rw (p.1, p.2) (item_fails (fault_of c.in_err-item.field-0.0) c.args.names.now c.loop-line.items.items c.loop-line.line-index c.args.lines.now c.line-item.result _ c.loop-line-test.true c.line-item.is
    (rw (sym c.as_slice.ensures.value) c.in_err-item.ensures) c.loop-line.invariant)

pub loop-line-preserved : goal.loop-line-preserved
loop-line-preserved c =
    ap (λ xs. items_from c.args.names.now xs (drop (c.loop-line.line-index + 1) c.args.lines.now)) c.in_ok-push.ensures.items
    ∙ item_more c.args.names.now c.loop-line.items.items c.loop-line.line-index c.args.lines.now c.line-item.result c.in_ok-item.item _ c.loop-line-test.true c.line-item.is
    (rw (sym c.as_slice.ensures.value) c.in_ok-item.ensures) c.loop-line.invariant

pub returns : goal.returns
returns c = items_all c.args.names.now c.loop-line.items.items c.loop-line.line-index c.args.lines.now _ c.loop-line-test.false c.loop-line.invariant
