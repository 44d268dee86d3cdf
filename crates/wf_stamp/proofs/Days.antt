-- Days in the order of the calendar, counted as `jiff` counts them.
use Rattle.std.proofs.Common.{◌≡◌, ℕ, zero, suc, ◌+◌, ◌-◌, ◌<◌, ◌≤◌, inl, inr, pos, ◌+ℤ◌, ◌<ℤ◌, IsTrue, refl, sym, ap, ap₂, ◌∙◌, arith}
use Rattle.std.specs.Prelude.{sum_by}
use Rattle.std.specs.List.{range_with_len}
use Rattle.std.proofs.lemmas.Bool.{cases_lt, cases_order, lt-ltb, le-ltb}
use Rattle.std.proofs.lemmas.Bool.Decides.{nat_tests}
use Rattle.std.proofs.lemmas.List.Sums.{sum_by-cons}
use Rattle.jiff_core.specs.Calendar.{day_count, days_in_month, IsCivilDate}
use Rattle.jiff_core.proofs.CalendarLemmas.{day_count-day, day_count-next_month, day_count-next_year, day_count-last_of_year, day_count-end, day_count-lt_year, day_count-lt_month, days_in_month_bounds, day_count_bounds}
use Rattle.jiff_core.proofs.MarchLemmas.{day_count-early}
use Rattle.jiff_core.proofs.SignedLemmas.{signed_arith}
use Rattle.wf_model.specs.Calendar.{Day, month_days, next_day, days_after}
use Rattle.wf_model.specs.Dates.{is_date, year_days, days_before}
use Rattle.wf_stamp.specs.Moments.{day_at}

-- a day of the years from 1 on
pub record IsDay (d : Day) : Type 0 where
  pub year : 1 ≤ d.year
  pub month : 1 ≤ d.month
  pub month_end : d.month ≤ 12
  pub day : 1 ≤ d.day
  pub day_end : d.day ≤ month_days d.year d.month

-- the test as facts
pub IsDay-from_is_date : (d : Day) → IsTrue (is_date d) → IsDay d × (d.year ≤ 9999)
IsDay-from_is_date d h = (
  record {
    year = grind (arith, nat_tests);
    month = grind (arith, nat_tests);
    month_end = grind (arith, nat_tests);
    day = grind (arith, nat_tests);
    day_end = grind (arith, nat_tests);
  },
  grind (arith, nat_tests),
)

-- the facts as the test
pub is_date-from_IsDay : (d : Day) → IsDay d → d.year ≤ 9999 → IsTrue (is_date d)
is_date-from_IsDay d h top = grind (arith, nat_tests)

-- how many days come before it since 1 January of the year -10000
abbrev pub count : Day → ℕ
count d = day_count (pos d.year) d.month d.day

-- it has one day more before it, and is a day of the calendar
abbrev pub Follows : Day → Day → Type 0
Follows d e = (count e ≡ count d + 1) × IsDay e

-- the day that follows by the calendar's rule follows in the count
pub next_follows : (d : Day) → IsDay d → Follows d (next_day d)
unfolding next_day
next_follows d h =
    elim (cases_lt d.day (month_days d.year d.month)) [
      | inl lt ↦ rw (lt-ltb _ _ lt) (
        omega (arith, day_count-day (pos d.year) d.month d.day (d.day + 1) h.day (omega arith)),
        record { year = h.year; month = h.month; month_end = h.month_end; day = omega arith; day_end = omega arith },
      )
      | inr le ↦ rw (le-ltb _ _ le) (elim (cases_lt d.month 12) [
        | inl lt ↦ rw (lt-ltb _ _ lt) (
          omega (arith, h.day_end, day_count-day (pos d.year) d.month 1 d.day (omega arith) h.day, day_count-next_month (pos d.year) d.month h.month),
          record { year = h.year; month = omega arith; month_end = omega arith; day = omega arith; day_end = omega (arith, days_in_month_bounds (pos d.year) (d.month + 1)) },
        )
        | inr last ↦ rw (le-ltb _ _ last) (
          (let december : d.month ≡ 12 = omega (arith, h.month_end) in
              let day : d.day ≡ 31 = let m : days_in_month (pos d.year) d.month ≡ 31 = rw december refl in omega (arith, h.day_end) in
              let next : pos (d.year + 1) ≡ pos d.year +ℤ pos 1 = omega (arith, signed_arith) in
              rw (december, day) (omega (arith, day_count-last_of_year (pos d.year), day_count-next_year (pos d.year) (pos (d.year + 1)) (omega (arith, signed_arith)) next))),
          record { year = omega arith; month = omega arith; month_end = omega arith; day = omega arith; day_end = omega (arith, days_in_month_bounds (pos (d.year + 1)) 1) },
        )
      ])
    ]

-- a day so many days later has so many more days before it
pub count-days_after : (n : ℕ) (d : Day) → IsDay d → (count (days_after n d) ≡ count d + n) × IsDay (days_after n d)
unfolding days_after
count-days_after zero d h = (omega arith, h)
count-days_after (suc n) d h =
    let before = count-days_after n d h in
    let step = next_follows (days_after n d) before.1 in
    (omega (arith, before.0, step.0), step.1)

-- `jiff` has each day of the years 1 to 9999
pub IsCivilDate-from_IsDay : (d : Day) → IsDay d → d.year ≤ 9999 → IsCivilDate (pos d.year) d.month d.day
IsCivilDate-from_IsDay d h top = ((omega (arith, signed_arith), omega (arith, signed_arith)), (h.month, h.month_end), (h.day, h.day_end))

lt_pos : (a b : ℕ) → a < b → pos a <ℤ pos b
lt_pos a b h = omega (arith, signed_arith)

-- two days of years to 9999 with one count are one day
pub same_day : (a b : Day) → IsDay a → IsDay b → a.year ≤ 9999 → b.year ≤ 9999 → count a ≡ count b → a ≡ b
same_day a b h k top_a top_b e =
    elim (cases_order a.year b.year) [
      | inr (inl lt) ↦ absurd (omega (arith, day_count-lt_year (pos a.year) a.month a.day (pos b.year) b.month b.day (IsCivilDate-from_IsDay a h top_a) k.day (lt_pos _ _ lt)))
      | inr (inr gt) ↦ absurd (omega (arith, day_count-lt_year (pos b.year) b.month b.day (pos a.year) a.month a.day (IsCivilDate-from_IsDay b k top_b) h.day (lt_pos _ _ gt)))
      | inl year ↦ elim (cases_order a.month b.month) [
        | inr (inl lt) ↦ absurd (omega (arith, rw (ap pos (sym year)) at e, day_count-lt_month (pos a.year) a.month a.day b.month b.day (IsCivilDate-from_IsDay a h top_a) k.day lt))
        | inr (inr gt) ↦ absurd (omega (arith, rw (ap pos year) at e, day_count-lt_month (pos b.year) b.month b.day a.month a.day (IsCivilDate-from_IsDay b k top_b) h.day gt))
        | inl month ↦
            let day : a.day ≡ b.day = omega (arith, rw (ap pos (sym year), sym month) at e, day_count-day (pos a.year) a.month a.day b.day h.day k.day) in
            ap (λ y. day_at y a.month a.day) year ∙ ap₂ (day_at b.year) month day
      ]
    ]

-- the last day of the year 9999
pub count_last : day_count (pos 9999) 12 31 ≡ 7_304_849
count_last = omega (arith, day_count-end, day_count-last_of_year (pos 9999), day_count-next_year (pos 9999) (pos 10000) (omega (arith, signed_arith)) refl)

-- the days from the year 10000 on have more days before them than the last day of 9999
pub past_last : (d : Day) → IsDay d → 9999 < d.year → 7_304_849 < count d
past_last d h lt =
    let last : IsCivilDate (pos 9999) 12 31 = ((omega (arith, signed_arith), omega (arith, signed_arith)), (omega arith, omega arith), (omega arith, omega arith)) in
    omega (arith, day_count-lt_year (pos 9999) 12 31 (pos d.year) d.month d.day last h.day (lt_pos _ _ lt), count_last)

-- and those of the years to 9999 do not
pub until_last : (d : Day) → IsDay d → d.year ≤ 9999 → count d ≤ 7_304_849
until_last d h top = (day_count_bounds (pos d.year) d.month d.day (IsCivilDate-from_IsDay d h top)).1

-- a sum over one more number
sum_by-range_more : (f : ℕ → ℕ) (a n : ℕ) → sum_by f (range_with_len a (suc n)) ≡ sum_by f (range_with_len a n) + f (a + n)
sum_by-range_more f a zero = let same : a + 0 ≡ a = omega arith in rw same (omega arith)
sum_by-range_more f a (suc n) =
    let next : a + 1 + n ≡ a + suc n = omega arith in
    omega (arith, sum_by-cons f a (range_with_len (a + 1) (suc n)), sum_by-cons f a (range_with_len (a + 1) n), rw next at (sum_by-range_more f (a + 1) n))

-- the days before a year are those of the years before it
day_count-year : (n : ℕ) → day_count (pos (suc n)) 1 1 ≡ 3_652_791 + sum_by year_days (range_with_len 1 n)
day_count-year zero = day_count-early (pos 1) 10000 1 1 refl (omega arith) (omega arith) (omega arith)
day_count-year (suc n) =
    let next : pos (suc (suc n)) ≡ pos (suc n) +ℤ pos 1 = omega (arith, signed_arith) in
    let index : 1 + n ≡ suc n = omega arith in
    omega (arith, day_count-year n, rw index at (sum_by-range_more year_days 1 n), day_count-next_year (pos (suc n)) (pos (suc (suc n))) (omega (arith, signed_arith)) next)

-- the days before a month are those of the months before it
day_count-month : (y n : ℕ) → day_count (pos y) (suc n) 1 ≡ day_count (pos y) 1 1 + sum_by (month_days y) (range_with_len 1 n)
day_count-month y zero = omega arith
day_count-month y (suc n) =
    let index : 1 + n ≡ suc n = omega arith in
    let next : suc n + 1 ≡ suc (suc n) = omega arith in
    omega (arith, day_count-month y n, rw index at (sum_by-range_more (month_days y) 1 n), rw next at (day_count-next_month (pos y) (suc n) (omega arith)))

-- the days from the first day of year 1 on, by the sums over years and months
pub count-days_before : (d : Day) → IsDay d → count d ≡ 3_652_791 + days_before d
unfolding days_before
count-days_before d h =
    let year : suc (d.year - 1) ≡ d.year = omega (arith, h.year) in
    let month : suc (d.month - 1) ≡ d.month = omega (arith, h.month) in
    omega (arith, h.day, rw year at (day_count-year (d.year - 1)), rw month at (day_count-month d.year (d.month - 1)), day_count-day (pos d.year) d.month d.day 1 h.day (omega arith))
