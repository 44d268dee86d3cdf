use Rattle.std.proofs.Common.{◌+◌, ◌-◌, ap, ◌∙◌}
use Rattle.std.proofs.lemmas.Result.{err_from_is_err_and}
use Rattle.wf_model.specs.CdfRead.{items, var}
use Rattle.wf_cdfread.proofs.Turns.{with_front, items_more, items_fail}
use Rattle.wf_cdfread.proofs.part.vars.Goals as goal

pub returns-in_err-var : goal.returns-in_err-var
returns-in_err-var c =
    let each = var c.args.version c.args.dims.now in
    let p = err_from_is_err_and c.from_residual.result c.from_residual.ensures.1 in
    rw (p.1, p.2) (items_fail each c.in_err-var.field-0.0 c.loop.vars.items c.args.count c.loop.counter c.args.bytes.now c.loop.next (items each c.args.count c.args.bytes.now c.args.at) c.loop-test.true c.in_err-var.ensures c.loop.invariant)

pub loop-preserved : goal.loop-preserved
loop-preserved c =
    let each = var c.args.version c.args.dims.now in
    ap (λ xs. with_front xs (items each (c.args.count - (c.loop.counter + 1)) c.args.bytes.now c.in_ok-var.end)) c.in_ok-push.ensures.items
    ∙ items_more each c.loop.vars.items c.in_ok-var.var c.args.count c.loop.counter c.args.bytes.now c.loop.next c.in_ok-var.end
    (items each c.args.count c.args.bytes.now c.args.at) c.loop-test.true c.in_ok-var.ensures c.loop.invariant
