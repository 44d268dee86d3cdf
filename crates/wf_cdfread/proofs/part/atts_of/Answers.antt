use Rattle.std.proofs.Common.{◌+◌, ◌-◌, ap, ◌∙◌}
use Rattle.std.proofs.lemmas.Result.{err_from_is_err_and}
use Rattle.wf_model.specs.CdfRead.{items, att}
use Rattle.wf_cdfread.proofs.Turns.{with_front, items_more, items_fail}
use Rattle.wf_cdfread.proofs.part.atts_of.Goals as goal

pub returns-in_err-att : goal.returns-in_err-att
returns-in_err-att c =
    let p = err_from_is_err_and c.from_residual.result c.from_residual.ensures.1 in
    rw (p.1, p.2) (items_fail att c.in_err-att.field-0.0 c.loop.atts.items c.args.count c.loop.counter c.args.bytes.now c.loop.next (items att c.args.count c.args.bytes.now c.args.at) c.loop-test.true c.in_err-att.ensures c.loop.invariant)

pub loop-preserved : goal.loop-preserved
loop-preserved c =
    ap (λ xs. with_front xs (items att (c.args.count - (c.loop.counter + 1)) c.args.bytes.now c.in_ok-att.end)) c.in_ok-push.ensures.items
    ∙ items_more att c.loop.atts.items c.in_ok-att.att c.args.count c.loop.counter c.args.bytes.now c.loop.next c.in_ok-att.end
    (items att c.args.count c.args.bytes.now c.args.at) c.loop-test.true c.in_ok-att.ensures c.loop.invariant
