use Rattle.std.proofs.Common.{◌∙◌, Ok, ap, drop, length, option_map}
use Rattle.std.proofs.lemmas.Result.{err_from_is_err_and}
use Rattle.wf_namelist.specs.NamelistError.{fault_of}
use Rattle.wf_namelist.proofs.GroupTurns.{after_group, no_more, group_fails, all_read}
use Rattle.wf_namelist.proofs.group.groups.Goals as goal

pub returns-in_err-group_at : goal.returns-in_err-group_at
returns-in_err-group_at c =
    let p = err_from_is_err_and c.from_residual.result c.from_residual.ensures.1 in
    rw (p.1, p.2) (group_fails (fault_of c.in_err-group_at.field-0.0) c.loop.items.items (length c.args.tokens.now) c.loop.counter (drop c.loop.at c.args.tokens.now) _ c.loop-test.true c.in_err-group_at.ensures c.loop.invariant)

pub returns-in-None : goal.returns-in-None
returns-in-None c =
    no_more c.loop.items.items (length c.args.tokens.now) c.loop.counter (drop c.loop.at c.args.tokens.now) _ c.loop-test.true
    (c.in_ok-group_at.ensures ∙ ap (λ g. Ok (option_map (λ r. (r.0.items, drop r.1 c.args.tokens.now)) g)) c.in-None.is) c.loop.invariant

pub loop-preserved : goal.loop-preserved
loop-preserved c =
    let next = drop c.in-Some.next c.args.tokens.now in
    rw c.in_ok-append-in-Some.ensures.items
    (after_group c.loop.items.items c.in-Some.more.items next (length c.args.tokens.now) c.loop.counter (drop c.loop.at c.args.tokens.now) _ c.loop-test.true
    (c.in_ok-group_at.ensures ∙ ap (λ g. Ok (option_map (λ r. (r.0.items, drop r.1 c.args.tokens.now)) g)) c.in-Some.is) c.loop.invariant)

pub returns : goal.returns
returns c = all_read c.loop.items.items (length c.args.tokens.now) c.loop.counter (drop c.loop.at c.args.tokens.now) _ c.loop-test.false c.loop.invariant
