use Rattle.std.proofs.Common.{◌≡◌, ◌∙◌, ◌+ℤ◌, pos, ap, sym, subst}
use Rattle.std.specs.Duration.{as_nanos}
use Rattle.std.proofs.lemmas.Bool.{false≢true}
use Rattle.jiff_core.specs.DateTime.{civil_nanos, IsCivilNanos}
use Rattle.wf_model.specs.Calendar.{moment_after}
use Rattle.wf_stamp.specs.Shown.{shown, IsWholeSecond}
use Rattle.wf_stamp.proofs.Moments.{shown-later, past-later, value_of_ok}
use Rattle.wf_stamp.proofs.stamps.Stamp.later.Goals as goal

-- the sum that `jiff` gives is so many seconds later
is_later : (c : goal.In_ok-moment) → IsWholeSecond c.in_ok-moment.moment × (shown c.in_ok-moment.moment ≡ moment_after (shown c.self.inside.moment) c.args.seconds)
is_later c =
    let sum : civil_nanos c.in_ok-moment.moment ≡ civil_nanos c.self.inside.moment +ℤ pos (as_nanos c.from_secs.result) = value_of_ok _ _ _ c.in_ok-moment.ensures.value c.checked_add.ensures.value in
    shown-later c.self.inside.moment c.in_ok-moment.moment c.args.seconds c.self.invariant (sum ∙ ap (λ n. civil_nanos c.self.inside.moment +ℤ pos n) c.from_secs.ensures)

pub invariant_of-result : goal.invariant_of-result
invariant_of-result c = (is_later c).0

pub returns-clause-moment : goal.returns-clause-moment
returns-clause-moment c = (is_later c).1 ∙ ap (λ m. moment_after m c.args.seconds) c.self.view_is

pub returns-in_err-moment-clause-past : goal.returns-in_err-moment-clause-past
returns-in_err-moment-clause-past c =
    rw (c.from_residual.ensures, ← c.self.view_is) (past-later c.self.inside.moment c.args.seconds c.self.invariant
    (λ can. let fits : IsCivilNanos (civil_nanos c.self.inside.moment +ℤ pos (as_nanos c.from_secs.result)) = subst (λ n. IsCivilNanos (civil_nanos c.self.inside.moment +ℤ pos n)) (sym c.from_secs.ensures) can in
    false≢true (c.in_err-moment.ensures.variant ∙ c.checked_add.ensures.succeeds.1 fits)))
