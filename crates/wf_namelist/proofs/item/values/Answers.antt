use Rattle.std.proofs.Common.{◌∙◌, Ok, ap, sym, drop}
use Rattle.std.proofs.lemmas.Result.{err_from_is_err_and}
use Rattle.wf_model.proofs.ReadingLemmas.{Gives-along}
use Rattle.wf_namelist.specs.NamelistError.{fault_of}
use Rattle.wf_namelist.specs.Turns.{seen, is_behind_value, turn_at}
use Rattle.wf_namelist.proofs.ItemTurns.{after_values, after_a_comma, ended, fails, used_up}
use Rattle.wf_namelist.proofs.item.values.Goals as goal
use Rattle.wf_namelist.proofs.item.values.Goals.{in-Comma, in-Found+in_ok-append-in-Found}

pub returns-in_err-turn_at : goal.returns-in_err-turn_at
returns-in_err-turn_at c =
    let p = err_from_is_err_and c.from_residual.result c.from_residual.ensures.1 in
    let behind = c.is_behind_value-behind_value.ensures ∙ ap (λ vs. is_behind_value vs c.loop.after_comma) c.deref.ensures.value in
    rw (p.1, p.2) (fails (fault_of c.in_err-turn_at.field-0.0) c.args.most c.loop.counter c.loop.values.items c.loop.after_comma (drop c.loop.at c.args.tokens.now) _ c.loop-test.true
    (rw (sym behind) c.in_err-turn_at.ensures) c.loop.invariant)

pub returns-in-Ends : goal.returns-in-Ends
returns-in-Ends c =
    let ts = drop c.loop.at c.args.tokens.now in
    let behind = c.is_behind_value-behind_value.ensures ∙ ap (λ vs. is_behind_value vs c.loop.after_comma) c.deref.ensures.value in
    Gives-along (λ r. (r.0.items, drop r.1 c.args.tokens.now)) fault_of c.some_values.result _ _
    (ended c.args.most c.loop.counter c.loop.values.items c.loop.after_comma ts _ c.loop-test.true
    (ap (λ b. turn_at b ts) (sym behind) ∙ c.in_ok-turn_at.ensures ∙ ap (λ t. Ok (seen c.args.tokens.now t)) c.in-Ends.is) c.loop.invariant)
    c.some_values.ensures

pub loop-preserved : goal.loop-preserved
loop-preserved c =
    let ts = drop c.loop.at c.args.tokens.now in
    let behind = c.is_behind_value-behind_value.ensures ∙ ap (λ vs. is_behind_value vs c.loop.after_comma) c.deref.ensures.value in
    let here = ap (λ b. turn_at b ts) (sym behind) ∙ c.in_ok-turn_at.ensures in
    elim c.match-branch-2.branch [
      | in-Comma w ↦ rw (w.values-is, w.after_comma-is, w.at-is, w.after-at.ensures)
          (after_a_comma c.args.most c.loop.counter c.loop.values.items c.loop.after_comma ts _ c.loop-test.true (here ∙ ap (λ t. Ok (seen c.args.tokens.now t)) w.in-Comma.is) c.loop.invariant)
      | in-Found+in_ok-append-in-Found w ↦ rw (w.values-is, w.after_comma-is, w.at-is, w.in_ok-append-in-Found.ensures.items)
          (after_values c.args.most c.loop.counter c.loop.values.items _ c.loop.after_comma ts _ _ c.loop-test.true (here ∙ ap (λ t. Ok (seen c.args.tokens.now t)) w.in-Found.is) c.loop.invariant)
    ]

pub returns : goal.returns
returns c =
    Gives-along (λ r. (r.0.items, drop r.1 c.args.tokens.now)) fault_of c.some_values-2.result _ _
    (used_up c.args.most c.loop.counter c.loop.values.items c.loop.after_comma (drop c.loop.at c.args.tokens.now) _ c.loop-test.false c.loop.invariant)
    c.some_values-2.ensures
