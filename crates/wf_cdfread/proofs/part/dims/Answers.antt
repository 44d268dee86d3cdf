use Rattle.std.proofs.Common.{◌≡◌, ◌+◌, ◌-◌, false, ap, sym, ◌∙◌}
use Rattle.std.specs.Prelude.{◌||◌, ◌==◌}
use Rattle.std.proofs.lemmas.Result.{err_from_is_err_and}
use Rattle.wf_model.specs.CdfRead.{dims}
use Rattle.wf_cdfread.proofs.Turns.{with_front, dims_more, dims_fail}
use Rattle.wf_cdfread.proofs.part.dims.Goals as goal
use Rattle.wf_cdfread.proofs.part.dims.Goals.{then-has_record, else-has_record}

pub returns-in_err-dim : goal.returns-in_err-dim
returns-in_err-dim c =
    let p = err_from_is_err_and c.from_residual.result c.from_residual.ensures.1 in
    rw (p.1, p.2) (dims_fail c.in_err-dim.field-0.0 c.loop.dims.items c.args.count c.loop.counter c.loop.has_record c.args.bytes.now c.loop.next (dims c.args.count false c.args.bytes.now c.args.at) c.loop-test.true c.in_err-dim.ensures c.loop.invariant)

pub loop-preserved : goal.loop-preserved
loop-preserved c =
    let seen : c.if-has_record.has_record ≡ (c.loop.has_record || (c.in_ok-dim.dim.len == 0)) =
    elim c.if-has_record.branch [
      | then-has_record w ↦ w.has_record-is ∙ w.if-has_record.true ∙ ap (λ b. b || (c.in_ok-dim.dim.len == 0)) (sym w.if-has_record.true)
      | else-has_record w ↦ w.has_record-is ∙ ap (λ b. b || (c.in_ok-dim.dim.len == 0)) (sym w.if-has_record.false)
    ] in
    ap (λ b. with_front c.push.new.self.items (dims (c.args.count - (c.loop.counter + 1)) b c.args.bytes.now c.in_ok-dim.end)) seen
    ∙ ap (λ xs. with_front xs (dims (c.args.count - (c.loop.counter + 1)) (c.loop.has_record || (c.in_ok-dim.dim.len == 0)) c.args.bytes.now c.in_ok-dim.end)) c.in_ok-push.ensures.items
    ∙ dims_more c.loop.dims.items c.in_ok-dim.dim c.args.count c.loop.counter c.loop.has_record c.args.bytes.now c.loop.next c.in_ok-dim.end
    (dims c.args.count false c.args.bytes.now c.args.at) c.loop-test.true c.in_ok-dim.ensures c.loop.invariant
