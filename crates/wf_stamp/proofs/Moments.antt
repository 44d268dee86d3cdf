-- Moments by days and seconds, against the nanoseconds that `jiff` counts.
use Rattle.std.proofs.Common.{◌≡◌, ℕ, ◌+◌, ◌*◌, ◌/◌, ◌%◌, ◌<◌, ◌≤◌, inl, inr, ℤ, pos, negsuc, ◌+ℤ◌, ◌-ℤ◌, ◌≤ℤ◌, IsTrue, Result, Ok, Err, Some, IfOk, refl, sym, ap, ap₂, subst, ◌∙◌, arith, w64, to_z, of_z}
use Rattle.std.specs.Prelude.{unsigned_abs, int_div}
use Rattle.std.specs.Result.{result_ok}
use Rattle.std.proofs.lemmas.Bool.{cases_lt}
use Rattle.std.proofs.lemmas.Option.{none-some, same_Some}
use Rattle.std.proofs.lemmas.Bool.Decides.{nat_tests}
use Rattle.std.proofs.lemmas.Int.{by_lt_z, to_z-of_z}
use Rattle.jiff_core.specs.Calendar.{day_count, days_in_month}
use Rattle.jiff_core.specs.Date.{epoch_day}
use Rattle.jiff_core.specs.DateTime.{civil_nanos, IsCivilNanos}
use Rattle.jiff_core.proofs.CalendarLemmas.{days_from_civil-day_count}
use Rattle.jiff_core.proofs.DateLemmas.{epoch_day_range, epoch_day-lt}
use Rattle.jiff_core.proofs.DateTimeLemmas.{civil_nanos-parts}
use Rattle.jiff_core.proofs.SignedLemmas.{signed_arith, fits_between}
use Rattle.jiff.specs.Types.{Date, DateTime}
use Rattle.wf_model.specs.Calendar.{Day, Moment, days_after, moment_after}
use Rattle.wf_model.specs.Dates.{seconds_before, seconds_between}
use Rattle.wf_stamp.specs.Moments.{day_at, is_moment}
use Rattle.wf_stamp.specs.Shown.{shown, IsWholeSecond}
use Rattle.wf_stamp.proofs.Days.{IsDay, is_date-from_IsDay, count, count-days_after, count-days_before, same_day, past_last, until_last}

-- the value of a result that is `Ok`
pub value_of_ok : {T E : Type 0} (P : T → Type 0) (r : Result T E) (x : T) → Some x ≡ result_ok r → IfOk r P → P x
value_of_ok P (Ok y) x e h = subst P (sym (same_Some x y e)) h
value_of_ok P (Err y) x e h = absurd (none-some x (sym e))

-- the year of a stamp as an unsigned number
pos-unsigned_abs : (y : ℤ) → pos 1 ≤ℤ y → pos (unsigned_abs y) ≡ y
pos-unsigned_abs (pos n) h = refl
pos-unsigned_abs (negsuc n) h = absurd (omega (arith, signed_arith))

-- the day that a date of the years from 1 on shows
abbrev shown_day : Date → Day
shown_day d = day_at (unsigned_abs d.year) d.month d.day

-- it is a day of the years 1 to 9999
IsDay-shown : (d : Date) → pos 1 ≤ℤ d.year → IsDay (shown_day d) × (unsigned_abs d.year ≤ 9999)
IsDay-shown d h =
    let back = pos-unsigned_abs d.year h in (
      record {
        year = omega (arith, signed_arith);
        month = d.month_in.0;
        month_end = d.month_in.1;
        day = d.day_in.0;
        day_end = subst (λ (y : ℤ). d.day ≤ days_in_month y d.month) (sym back) d.day_in.1;
      },
      omega (arith, signed_arith, d.year_in),
    )

-- 1 January 1970 is day 4,371,953 of the count
epoch_day-count : (d : Date) → pos 1 ≤ℤ d.year → epoch_day d +ℤ pos 4_371_953 ≡ pos (count (shown_day d))
epoch_day-count d h =
    let same : day_count d.year d.month d.day ≡ count (shown_day d) = ap (λ y. day_count y d.month d.day) (sym (pos-unsigned_abs d.year h)) in
    omega (arith, signed_arith, days_from_civil-day_count d.year d.month d.day, same)

-- what a stamp shows is a moment of the years 1 to 9999
pub is_moment-shown : (t : DateTime) → IsWholeSecond t → IsTrue (is_moment (shown t))
is_moment-shown t h =
    let day = IsDay-shown t.date h.first_year in
    let date = is_date-from_IsDay (shown_day t.date) day.0 day.1 in
    let clock : (shown t).second < 86400 = omega (arith, t.time.hour_in, t.time.minute_in, t.time.second_in) in
    grind (arith, nat_tests)

-- nanoseconds since 1970, by the seconds since the first day of year 1
pub civil_nanos-seconds_before : (t : DateTime) → IsWholeSecond t → civil_nanos t +ℤ pos 62_135_596_800_000_000_000 ≡ pos (seconds_before (shown t) * 1_000_000_000)
civil_nanos-seconds_before t h =
    let day = IsDay-shown t.date h.first_year in
    omega (arith, signed_arith, civil_nanos-parts t, epoch_day-count t.date h.first_year, count-days_before (shown_day t.date) day.0, h.whole)

-- the parts of the later of two datetimes that lie so many seconds apart
record IsParted (old new : DateTime) (n : ℕ) : Type 0 where
  whole : new.time.subsec_nanosecond ≡ 0
  second : (shown new).second ≡ ((shown old).second + n) % 86400
  day : epoch_day new.date ≡ epoch_day old.date +ℤ pos (((shown old).second + n) / 86400)

-- such datetimes have such parts
parted : (old new : DateTime) (n : ℕ) → old.time.subsec_nanosecond ≡ 0 → civil_nanos new ≡ civil_nanos old +ℤ pos (n * 1_000_000_000) → IsParted old new n
parted old new n whole e =
    let a = civil_nanos-parts old in
    let b = civil_nanos-parts new in
    record {
      whole = omega (arith, signed_arith, a, b, e, new.time.subsec_in);
      second = omega (arith, signed_arith, a, b, e);
      day = omega (arith, signed_arith, a, b, e);
    }

-- the midnights that are passed in so many seconds
abbrev whole_days : DateTime → ℕ → ℕ
whole_days old n = ((shown old).second + n) / 86400

-- so many days later is a day of the calendar
later_day : (old : DateTime) (n : ℕ) → IsWholeSecond old → (count (days_after (whole_days old n) (shown_day old.date)) ≡ count (shown_day old.date) + whole_days old n) × IsDay (days_after (whole_days old n) (shown_day old.date))
later_day old n h = count-days_after (whole_days old n) (shown_day old.date) (IsDay-shown old.date h.first_year).0

-- what `jiff` gives so many seconds later shows the moment so many seconds later
pub shown-later : (old new : DateTime) (n : ℕ) → IsWholeSecond old → civil_nanos new ≡ civil_nanos old +ℤ pos (n * 1_000_000_000) → IsWholeSecond new × (shown new ≡ moment_after (shown old) n)
shown-later old new n h e =
    let p = parted old new n h.whole e in
    let first_year : pos 1 ≤ℤ new.date.year = by_lt_z new.date.year (pos 1)
    (λ lt. absurd (let before = epoch_day-lt new.date old.date (inl (omega (arith, signed_arith, h.first_year))) in omega (arith, signed_arith, p.day)))
    (λ ge. ge) in
    let l = later_day old n h in
    let d = IsDay-shown new.date first_year in
    let counts : count (shown_day new.date) ≡ count (days_after (whole_days old n) (shown_day old.date)) =
    omega (arith, signed_arith, epoch_day-count new.date first_year, epoch_day-count old.date h.first_year, p.day, l.0) in
    let top : (days_after (whole_days old n) (shown_day old.date)).year ≤ 9999 = elim (cases_lt 9999 (days_after (whole_days old n) (shown_day old.date)).year) [
      | inl lt ↦ absurd (omega (arith, past_last _ l.1 lt, until_last (shown_day new.date) d.0 d.1, counts))
      | inr le ↦ le
    ] in
    let day = same_day (shown_day new.date) (days_after (whole_days old n) (shown_day old.date)) d.0 l.1 d.1 top counts in
    (record { first_year = first_year; whole = p.whole }, ap₂ (λ (x : Day) (s : ℕ). let m : Moment = record { date = x; second = s } in m) day p.second)

-- where `jiff` has no datetime so many seconds later, that moment is past the year 9999
pub past-later : (old : DateTime) (n : ℕ) → IsWholeSecond old → (IsCivilNanos (civil_nanos old +ℤ pos (n * 1_000_000_000)) → ⊥) → 9999 < (moment_after (shown old) n).date.year
past-later old n h barred =
    let l = later_day old n h in
    elim (cases_lt 9999 (days_after (whole_days old n) (shown_day old.date)).year) [
      | inl lt ↦ lt
      | inr le ↦ absurd (barred (
          let w = until_last _ l.1 le in
          let c = epoch_day-count old.date h.first_year in
          (omega (arith, signed_arith, civil_nanos-parts old, epoch_day_range old.date, h.whole), omega (arith, signed_arith, civil_nanos-parts old, c, w, l.0, h.whole))))
    ]

-- the difference of multiples of a thousand million, divided by it
int_div-multiples : (a b : ℕ) → int_div (pos (b * 1_000_000_000) -ℤ pos (a * 1_000_000_000)) (pos 1_000_000_000) ≡ pos b -ℤ pos a
int_div-multiples a b = omega (arith, signed_arith)

-- fewer seconds than the years 1 to 9999 have come before it
seconds_bound : (t : DateTime) → IsWholeSecond t → seconds_before (shown t) < 315_537_897_600
seconds_bound t h =
    let day = IsDay-shown t.date h.first_year in
    omega (arith, count-days_before (shown_day t.date) day.0, until_last (shown_day t.date) day.0 day.1, t.time.hour_in, t.time.minute_in, t.time.second_in)

-- the whole seconds that `jiff` counts between two datetimes
pub int_div-civil_nanos : (a b : DateTime) → IsWholeSecond a → IsWholeSecond b → int_div (civil_nanos b -ℤ civil_nanos a) (pos 1_000_000_000) ≡ seconds_between (shown a) (shown b)
int_div-civil_nanos a b h k =
    let same : civil_nanos b -ℤ civil_nanos a ≡ pos (seconds_before (shown b) * 1_000_000_000) -ℤ pos (seconds_before (shown a) * 1_000_000_000) =
    omega (arith, signed_arith, civil_nanos-seconds_before a h, civil_nanos-seconds_before b k) in
    ap (λ n. int_div n (pos 1_000_000_000)) same ∙ int_div-multiples (seconds_before (shown a)) (seconds_before (shown b))

-- a difference of such numbers fits a signed number of 64 bits
back_difference : (a b : ℕ) → a < 315_537_897_600 → b < 315_537_897_600 → to_z w64 (of_z w64 (pos b -ℤ pos a)) ≡ pos b -ℤ pos a
back_difference a b h k = to_z-of_z w64 (pos b -ℤ pos a) (fits_between w64 (pos b -ℤ pos a) (omega (arith, signed_arith)))

-- so their number fits a signed number of 64 bits
pub to_z-seconds_between : (a b : DateTime) → IsWholeSecond a → IsWholeSecond b → to_z w64 (of_z w64 (seconds_between (shown a) (shown b))) ≡ seconds_between (shown a) (shown b)
to_z-seconds_between a b h k = back_difference (seconds_before (shown a)) (seconds_before (shown b)) (seconds_bound a h) (seconds_bound b k)

-- so many seconds after the first comes the second
pub moment_after-between : (a b : DateTime) (n : ℕ) → IsWholeSecond a → IsWholeSecond b → seconds_between (shown a) (shown b) ≡ pos n → moment_after (shown a) n ≡ shown b
moment_after-between a b n h k e =
    let sum : civil_nanos b ≡ civil_nanos a +ℤ pos (n * 1_000_000_000) = omega (arith, signed_arith, e, civil_nanos-seconds_before a h, civil_nanos-seconds_before b k) in
    sym (shown-later a b n h sum).1
