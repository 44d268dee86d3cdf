use Rattle.std.proofs.Common.{◌+◌, ◌-◌, eqb, true, ap, ◌∙◌}
use Rattle.std.proofs.lemmas.Result.{err_from_is_err_and}
use Rattle.wf_model.specs.CdfRead.{dim_numbers}
use Rattle.wf_cdfread.proofs.Turns.{with_front, numbers_more, numbers_fail}
use Rattle.wf_cdfread.proofs.part.dim_numbers.Goals as goal

pub returns-in_err-number : goal.returns-in_err-number
returns-in_err-number c =
    let p = err_from_is_err_and c.from_residual.result c.from_residual.ensures.1 in
    rw (p.1, p.2) (numbers_fail c.args.dims.now c.in_err-number.field-0.0 c.loop-i.numbers.items c.args.rank c.loop-i.i c.args.bytes.now c.loop-i.next (dim_numbers c.args.dims.now true c.args.rank c.args.bytes.now c.args.at) c.loop-i-test.true c.in_err-number.ensures c.loop-i.invariant)

pub loop-i-preserved : goal.loop-i-preserved
loop-i-preserved c =
    ap (λ xs. with_front xs (dim_numbers c.args.dims.now (eqb (c.loop-i.i + 1) 0) (c.args.rank - (c.loop-i.i + 1)) c.args.bytes.now c.in_ok-number.end)) c.in_ok-push.ensures.items
    ∙ numbers_more c.args.dims.now c.loop-i.numbers.items c.in_ok-number.number c.args.rank c.loop-i.i c.args.bytes.now c.loop-i.next c.in_ok-number.end
    (dim_numbers c.args.dims.now true c.args.rank c.args.bytes.now c.args.at) c.loop-i-test.true c.in_ok-number.ensures c.loop-i.invariant
