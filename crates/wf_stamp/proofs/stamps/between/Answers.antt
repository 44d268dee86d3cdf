use Rattle.std.proofs.Common.{◌≡◌, ◌∙◌, sym, ap, pos, to_z, of_z, w64}
use Rattle.std.specs.Prelude.{int_div}
use Rattle.wf_model.specs.Dates.{seconds_between}
use Rattle.wf_stamp.specs.Shown.{shown}
use Rattle.wf_stamp.proofs.Moments.{int_div-civil_nanos, to_z-seconds_between, moment_after-between}
use Rattle.wf_stamp.proofs.stamps.between.Goals as goal

-- what is returned, of the moments that the two show
is_between : (c : goal.After-as_secs) → to_z w64 (of_z w64 c.as_secs.result) ≡ seconds_between (shown c.a.inside.moment) (shown c.b.inside.moment)
is_between c =
    let a = c.a.inside.moment in
    let b = c.b.inside.moment in
    let whole = c.as_secs.ensures ∙ ap (λ n. int_div n (pos 1_000_000_000)) c.duration_until.ensures ∙ int_div-civil_nanos a b c.a.invariant c.b.invariant in
    ap (λ z. to_z w64 (of_z w64 z)) whole ∙ to_z-seconds_between a b c.a.invariant c.b.invariant

pub returns-clause-seconds : goal.returns-clause-seconds
returns-clause-seconds c = rw (← c.a.view_is, ← c.b.view_is) (is_between c)

pub returns-clause-reached : goal.returns-clause-reached
returns-clause-reached c = λ n e. rw (← c.a.view_is, ← c.b.view_is) (moment_after-between c.a.inside.moment c.b.inside.moment n c.a.invariant c.b.invariant (sym (is_between c) ∙ e))
