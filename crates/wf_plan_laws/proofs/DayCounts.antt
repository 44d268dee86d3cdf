-- No day of the years 1 to 9999 comes after the last.
use Rattle.std.proofs.Common.{◌≡◌, ℕ, zero, suc, ◌+◌, ◌-◌, ◌<◌, ◌≤◌, Bool, true, false, [], refl, ap, arith}
use Rattle.std.proofs.lemmas.Bool.Decides.{nat_tests}
use Rattle.std.proofs.lemmas.List.Sums.{sum_by-cons}
use Rattle.std.specs.Prelude.{sum_by, if◌then◌else◌}
use Rattle.std.specs.List.{range_with_len}
use Rattle.wf_model.specs.Calendar.{Day, Moment, is_leap, month_days}
use Rattle.wf_model.specs.Dates.{is_date, year_days, days_before, seconds_before, last_moment}

-- one number more
more : (f : ℕ → ℕ) (a n j : ℕ) → a + n ≡ j → sum_by f (range_with_len a (n + 1)) ≡ sum_by f (range_with_len a n) + f j
more f a zero j next =
    let same : a ≡ j = omega arith in
    omega (arith, sum_by-cons f a [], ap f same)
more f a (suc n) j next =
    let count : suc n + 1 ≡ suc (n + 1) = omega arith in
    omega (arith, ap (λ (k : ℕ). sum_by f (range_with_len a k)) count, sum_by-cons f a (range_with_len (a + 1) (n + 1)), sum_by-cons f a (range_with_len (a + 1) n), more f (a + 1) n j (omega arith))

-- a sum over more numbers is no less
grows : (f : ℕ → ℕ) (n k : ℕ) → sum_by f (range_with_len 1 n) ≤ sum_by f (range_with_len 1 (n + k))
grows f n zero = let same : n + 0 ≡ n = omega arith in rw same (omega arith)
grows f n (suc k) =
    let next : n + suc k ≡ (n + k) + 1 = omega arith in
    rw next (omega (arith, grows f n k, more f 1 (n + k) (1 + (n + k)) refl))

up_to : (f : ℕ → ℕ) (n m : ℕ) → n ≤ m → sum_by f (range_with_len 1 n) ≤ sum_by f (range_with_len 1 m)
up_to f n m h =
    let all : n + (m - n) ≡ m = omega arith in
    omega (arith, grows f n (m - n), ap (λ (k : ℕ). sum_by f (range_with_len 1 k)) all)

-- the one before it, and its own
with_own : (f : ℕ → ℕ) (n : ℕ) → 1 ≤ n → sum_by f (range_with_len 1 (n - 1)) + f n ≡ sum_by f (range_with_len 1 n)
with_own f n h =
    let all : (n - 1) + 1 ≡ n = omega arith in
    omega (arith, more f 1 (n - 1) n (omega arith), ap (λ (k : ℕ). sum_by f (range_with_len 1 k)) all)

-- the months of a year are the year
in_months : (b : Bool) (y : ℕ) → is_leap y ≡ b → sum_by (month_days y) (range_with_len 1 12) ≡ (if b then 366 else 365)
in_months true y e = λ i. 31 + (if e i then 29 else 28) + 31 + 30 + 31 + 30 + 31 + 31 + 30 + 31 + 30 + 31
in_months false y e = λ i. 31 + (if e i then 29 else 28) + 31 + 30 + 31 + 30 + 31 + 31 + 30 + 31 + 30 + 31

year_is : (y : ℕ) → sum_by (month_days y) (range_with_len 1 12) ≡ year_days y
year_is y = in_months (is_leap y) y refl

all_years : sum_by year_days (range_with_len 1 9999) ≡ 3652059
all_years = refl

last_day : days_before last_moment.date ≡ 3652058
unfolding days_before
last_day = refl

record IsCounted (d : Day) : Type 0 where
  year : 1 ≤ d.year
  last_year : d.year ≤ 9999
  month : 1 ≤ d.month
  last_month : d.month ≤ 12
  day : 1 ≤ d.day
  last_day : d.day ≤ month_days d.year d.month

days_are : (d : Day) → IsCounted d → days_before d ≤ 3652058
unfolding days_before
days_are d is =
    omega (
      arith,
      is.year,
      is.month,
      with_own year_days d.year is.year,
      up_to year_days d.year 9999 is.last_year,
      all_years,
      with_own (month_days d.year) d.month is.month,
      up_to (month_days d.year) d.month 12 is.last_month,
      year_is d.year,
      is.day,
      is.last_day,
    )

counted : (d : Day) → is_date d ≡ true → IsCounted d
counted d e = record { year = grind (arith, nat_tests); last_year = grind (arith, nat_tests); month = grind (arith, nat_tests); last_month = grind (arith, nat_tests); day = grind (arith, nat_tests); last_day = grind (arith, nat_tests) }

-- no moment of these days comes after the last second
pub moment_within : (m : Moment) → is_date m.date ≡ true → m.second < 86400 → seconds_before m ≤ seconds_before last_moment
moment_within m dated in_day = omega (arith, days_are m.date (counted m.date dated), last_day, in_day)
