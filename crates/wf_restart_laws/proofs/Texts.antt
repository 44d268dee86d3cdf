-- Texts of times.
use Rattle.std.proofs.Common.{◌≡◌, ℕ, zero, suc, ◌+◌, ◌/◌, ◌%◌, List, IsTrue, ap, ◌∙◌, arith}
use Rattle.std.proofs.lemmas.Bool.Decides.{nat_tests}
use Rattle.wf_model.specs.Calendar.{Day, Moment, moment_of, moment_after, days_after, next_day, text_of, time_text}
use Rattle.wf_model.specs.Dates.{is_stamp, seconds_before}
use Rattle.wf_stamp.specs.Moments.{is_moment}
use Rattle.wf_stamp.proofs.Laws.{seconds_before-moment_after, year-from_seconds, is_moment-moment_after}
use Rattle.wf_stamp.proofs.ReadBack.{moment_of-text_of, is_stamp-text_of}
use Rattle.wf_restart_laws.specs.Times.{IsInYears, TimeTextsAreStamps, TimeTextsAreApart, TimeTextsGoOn}

-- the moment of a stamp
moment : (text : List ℕ) → IsTrue (is_stamp text) → IsTrue (is_moment (moment_of text))
moment text h = grind (arith, nat_tests)

-- the moment so many seconds after a start
after : (start : List ℕ) (n : ℕ) → IsInYears start n → IsTrue (is_moment (moment_after (moment_of start) n))
after start n h =
    let is : IsTrue (is_moment (moment_of start)) = moment start h.stamp in
    is_moment-moment_after (moment_of start) n is (year-from_seconds (moment_of start) n is h.within)

-- its text says it
says : (start : List ℕ) (n : ℕ) → IsInYears start n → moment_of (time_text start n) ≡ moment_after (moment_of start) n
unfolding time_text
says start n h = moment_of-text_of (moment_after (moment_of start) n) (after start n h)

pub stamps : TimeTextsAreStamps
unfolding time_text
stamps start n h =
    (is_stamp-text_of (moment_after (moment_of start) n) (after start n h), ap seconds_before (says start n h) ∙ seconds_before-moment_after (moment_of start) n (moment start h.stamp))

pub apart : TimeTextsAreApart
apart start a b h k same =
    let s = (stamps start a h).1 in
    let t = (stamps start b k).1 in
    omega (arith, s, t, ap (λ x. seconds_before (moment_of x)) same)

-- days after days
days-add : (a b : ℕ) (d : Day) → days_after a (days_after b d) ≡ days_after (a + b) d
unfolding days_after
days-add zero b d = ap (λ n. days_after n d) (zero_left b)
  where
    zero_left : (b : ℕ) → b ≡ 0 + b
    zero_left b = omega arith
days-add (suc a) b d = ap next_day (days-add a b d) ∙ ap (λ n. days_after n d) (moved a b)
  where
    moved : (a b : ℕ) → suc (a + b) ≡ suc a + b
    moved a b = omega arith

-- a moment after a moment
moments-add : (m : Moment) (a b : ℕ) → moment_after (moment_after m a) b ≡ moment_after m (a + b)
moments-add m a b =
    let days : ((m.second + a) % 86400 + b) / 86400 + (m.second + a) / 86400 ≡ (m.second + (a + b)) / 86400 = omega arith in
    let seconds : ((m.second + a) % 86400 + b) % 86400 ≡ (m.second + (a + b)) % 86400 = omega arith in
    λ i. record { date = (days-add (((m.second + a) % 86400 + b) / 86400) ((m.second + a) / 86400) m.date ∙ ap (λ n. days_after n m.date) days) i; second = seconds i }

pub go_on : TimeTextsGoOn
unfolding time_text
go_on start a b h = ap (λ m. text_of (moment_after m b)) (says start a h) ∙ ap text_of (moments-add (moment_of start) a b)
