-- What the definitions of moments say of one another.
use Rattle.std.proofs.Common.{◌≡◌, ℕ, ◌+◌, ◌/◌, ◌%◌, ◌<◌, ◌≤◌, inl, inr, IsTrue, arith}
use Rattle.std.proofs.lemmas.Bool.{cases_lt}
use Rattle.std.proofs.lemmas.Bool.Decides.{nat_tests}
use Rattle.wf_model.specs.Calendar.{Moment, moment_after}
use Rattle.wf_model.specs.Dates.{is_date, seconds_before, last_moment}
use Rattle.wf_stamp.specs.Moments.{day_at, is_moment}
use Rattle.wf_stamp.proofs.Days.{IsDay, IsDay-from_is_date, is_date-from_IsDay, count, count-days_after, count-days_before, past_last, until_last, count_last}

-- the day of a moment of the years 1 to 9999
pub date_of_moment : (m : Moment) → IsTrue (is_moment m) → IsTrue (is_date m.date)
date_of_moment m h = grind (arith, nat_tests)

-- and its second of the day
pub second_of_moment : (m : Moment) → IsTrue (is_moment m) → m.second < 86400
second_of_moment m h = grind (arith, nat_tests)

-- its day as facts
IsDay-of_moment : (m : Moment) → IsTrue (is_moment m) → IsDay m.date × (m.date.year ≤ 9999)
IsDay-of_moment m h = IsDay-from_is_date m.date (date_of_moment m h)

-- the day of the moment so many seconds later
IsDay-moment_after : (m : Moment) (n : ℕ) → IsTrue (is_moment m) → (count (moment_after m n).date ≡ count m.date + (m.second + n) / 86400) × IsDay (moment_after m n).date
IsDay-moment_after m n h = count-days_after ((m.second + n) / 86400) m.date (IsDay-of_moment m h).0

-- a moment so many seconds later has so many more seconds before it
pub seconds_before-moment_after : (m : Moment) (n : ℕ) → IsTrue (is_moment m) → seconds_before (moment_after m n) ≡ seconds_before m + n
seconds_before-moment_after m n h =
    let l = IsDay-moment_after m n h in
    omega (arith, l.0, count-days_before m.date (IsDay-of_moment m h).0, count-days_before (moment_after m n).date l.1)

-- the seconds of the years 1 to 9999, but the last
seconds_before-last : seconds_before last_moment ≡ 315_537_897_599
seconds_before-last =
    let d = day_at 9999 12 31 in
    let day : IsDay d = record { year = omega arith; month = omega arith; month_end = omega arith; day = omega arith; day_end = omega arith } in
    omega (arith, count_last, count-days_before d day)

-- a moment that is no later than the last lies in the years to 9999
pub year-from_seconds : (m : Moment) (n : ℕ) → IsTrue (is_moment m) → seconds_before m + n ≤ seconds_before last_moment → (moment_after m n).date.year ≤ 9999
year-from_seconds m n h k =
    let l = IsDay-moment_after m n h in
    elim (cases_lt 9999 (moment_after m n).date.year) [
      | inl lt ↦ absurd (omega (arith, past_last (moment_after m n).date l.1 lt, seconds_before-last, seconds_before-moment_after m n h, count-days_before (moment_after m n).date l.1))
      | inr le ↦ le
    ]

-- and the other way round
pub seconds-from_year : (m : Moment) (n : ℕ) → IsTrue (is_moment m) → (moment_after m n).date.year ≤ 9999 → seconds_before m + n ≤ seconds_before last_moment
seconds-from_year m n h k =
    let l = IsDay-moment_after m n h in
    omega (arith, until_last (moment_after m n).date l.1 k, seconds_before-last, seconds_before-moment_after m n h, count-days_before (moment_after m n).date l.1)

-- the moment so many seconds later is one of the years 1 to 9999 again
pub is_moment-moment_after : (m : Moment) (n : ℕ) → IsTrue (is_moment m) → (moment_after m n).date.year ≤ 9999 → IsTrue (is_moment (moment_after m n))
is_moment-moment_after m n h top =
    let date = is_date-from_IsDay (moment_after m n).date (IsDay-moment_after m n h).1 top in
    let second : (m.second + n) % 86400 < 86400 = omega arith in
    grind (arith, nat_tests)
