use Rattle.std.proofs.Common.{◌∙◌, ◌≤◌, ap, arith, subst, refl, IsTrue}
use Rattle.std.proofs.lemmas.Bool.{false≢true}
use Rattle.wf_model.specs.Calendar.{moment_after, moment_of, Moment}
use Rattle.wf_model.specs.Dates.{seconds_before}
use Rattle.wf_stamp.specs.Moments.{is_moment}
use Rattle.wf_stamp.proofs.Laws.{seconds_before-moment_after, year-from_seconds, seconds-from_year, is_moment-moment_after}
use Rattle.wf_stamp.proofs.ReadBack.{moment_of-text_of, is_stamp-text_of}
use Rattle.wf_stamp.proofs.texts.stamp_text.Goals as goal

-- the moment that was reached lies in the years to 9999
year_within : (c : goal.After-text_bytes) → (moment_after c.args.start.now c.args.seconds).date.year ≤ 9999
year_within c = subst (λ (m : Moment). m.date.year ≤ 9999) c.in-Some.ensures.moment c.in-Some.ensures.within

is_written : (c : goal.After-text_bytes) → IsTrue (is_moment c.in-Some.stamp)
is_written c = rw c.in-Some.ensures.moment (is_moment-moment_after c.args.start.now c.args.seconds c.in-Some.ensures.start (year_within c))

pub returns-in-Some-clause-stamp : goal.returns-in-Some-clause-stamp
returns-in-Some-clause-stamp c = rw c.text_bytes.ensures (is_stamp-text_of c.in-Some.stamp (is_written c))

pub returns-in-Some-clause-seconds : goal.returns-in-Some-clause-seconds
returns-in-Some-clause-seconds c = ap (λ t. seconds_before (moment_of t)) c.text_bytes.ensures ∙ ap seconds_before (moment_of-text_of c.in-Some.stamp (is_written c)) ∙ ap seconds_before c.in-Some.ensures.moment ∙ seconds_before-moment_after c.args.start.now c.args.seconds c.in-Some.ensures.start

pub returns-in-Some-clause-last : goal.returns-in-Some-clause-last
returns-in-Some-clause-last c = (λ _. seconds-from_year c.args.start.now c.args.seconds c.in-Some.ensures.start (year_within c), λ _. refl)

pub returns-in-None-clause-last : goal.returns-in-None-clause-last
returns-in-None-clause-last c = (λ e. absurd (false≢true e), λ k. absurd (omega (arith, year-from_seconds c.args.start.now c.args.seconds c.in-None.ensures.start k, c.in-None.ensures.past)))
