use Rattle.std.proofs.Common.{◌+◌, ◌-◌, ◌∙◌, ap, sym, drop}
use Rattle.std.proofs.lemmas.Result.{err_from_is_err_and}
use Rattle.wf_model.specs.Namelist.{group_items}
use Rattle.wf_namelist.specs.NamelistError.{fault_of}
use Rattle.wf_namelist.proofs.GroupTurns.{behind, after_item, item_fails, closed, left_open, never_closed}
use Rattle.wf_namelist.proofs.group.group_items.Goals as goal

pub returns-then-is_outside : goal.returns-then-is_outside
returns-then-is_outside c =
    rw c.refused.ensures (left_open c.loop.items.items c.args.most c.loop.counter c.args.group.now (drop c.loop.at c.args.tokens.now) _ c.loop-test.true (sym c.is_outside.ensures ∙ c.if-is_outside.true) c.loop.invariant)

pub returns-then-is_slash : goal.returns-then-is_slash
returns-then-is_slash c =
    rw c.after.ensures (closed c.loop.items.items c.args.most c.loop.counter c.args.group.now (drop c.loop.at c.args.tokens.now) _ c.loop-test.true (sym c.is_outside.ensures ∙ c.if-is_outside.false) (sym c.is_slash.ensures ∙ c.if-is_slash.true) c.loop.invariant)

pub returns-in_err-item : goal.returns-in_err-item
returns-in_err-item c =
    let p = err_from_is_err_and c.from_residual.result c.from_residual.ensures.1 in
    rw (p.1, p.2) (item_fails (fault_of c.in_err-item.field-0.0) c.loop.items.items c.args.most c.loop.counter c.args.group.now (drop c.loop.at c.args.tokens.now) _ c.loop-test.true
    (sym c.is_outside.ensures ∙ c.if-is_outside.false) (sym c.is_slash.ensures ∙ c.if-is_slash.false) c.in_err-item.ensures c.loop.invariant)

pub loop-preserved : goal.loop-preserved
loop-preserved c =
    let next = drop c.in_ok-item.next c.args.tokens.now in
    ap (λ is. behind is (group_items (c.args.most - (c.loop.counter + 1)) c.args.group.now next)) c.in_ok-push.ensures.items
    ∙ after_item c.loop.items.items c.in_ok-item.item next c.args.most c.loop.counter c.args.group.now (drop c.loop.at c.args.tokens.now) _ c.loop-test.true
    (sym c.is_outside.ensures ∙ c.if-is_outside.false) (sym c.is_slash.ensures ∙ c.if-is_slash.false) c.in_ok-item.ensures c.loop.invariant

pub returns : goal.returns
returns c =
    rw c.refused-2.ensures (never_closed c.loop.items.items c.args.most c.loop.counter c.args.group.now (drop c.loop.at c.args.tokens.now) _ c.loop-test.false c.loop.invariant)
