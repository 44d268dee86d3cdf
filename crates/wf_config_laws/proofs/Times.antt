-- The text of a start, read back, and the end of a run.
use Rattle.std.proofs.Common.{◌≡◌, ℕ, ◌+◌, ◌*◌, ◌/◌, ◌%◌, ◌<◌, ◌≤◌, ◌==◌, nat_lt, Bool, true, false, ◌&&◌, ◌||◌, IsTrue, ◌++◌, if◌then◌else◌, refl, ap, ap₂, ◌∙◌, arith}
use Rattle.std.specs.Str.{bytes_eq}
use Rattle.std.proofs.lemmas.Bool.Decides.{nat_tests}
use Rattle.std.proofs.lemmas.Slice.Eq.{bytes_eq-Decides}
use Rattle.wf_model.specs.Calendar.{Day, Moment, is_leap, month_days, two_digits, text_of, number_in, moment_of}
use Rattle.wf_model.specs.Dates.{is_date, is_stamp}
use Rattle.wf_model.specs.Letters.{digits_value}

-- a month has at most 31 days
most_days : (a b leap : Bool) → (if a then (if leap then 29 else 28) else (if b then 30 else 31)) ≤ 31
most_days true b true = omega arith
most_days true b false = omega arith
most_days false true leap = omega arith
most_days false false leap = omega arith

-- the parts of a date
pub record IsShown (d : Day) : Type 0 where
  pub year : d.year ≤ 9999
  pub month : d.month ≤ 12
  pub day : d.day ≤ 31

pub shown : (d : Day) → is_date d ≡ true → IsShown d
shown d e =
    let within : d.day ≤ month_days d.year d.month = grind (arith, nat_tests) in
    record {
      year = grind (arith, nat_tests);
      month = grind (arith, nat_tests);
      day = omega (arith, within, most_days (d.month == 2) ((d.month == 4) || (d.month == 6) || (d.month == 9) || (d.month == 11)) (is_leap d.year));
    }

digits_two : (n : ℕ) → n < 100 → digits_value (two_digits n) ≡ n
digits_two n h = omega arith

digits_four : (n : ℕ) → n ≤ 9999 → digits_value (two_digits (n / 100) ++ two_digits (n % 100)) ≡ n
digits_four n h = omega arith

day_of : ℕ → ℕ → ℕ → Day
day_of y m d = record { year = y; month = m; day = d }

moment : Day → ℕ → Moment
moment d s = record { date = d; second = s }

-- a moment's text says that moment
pub read_back : (m : Moment) → is_date m.date ≡ true → m.second < 86400 → moment_of (text_of m) ≡ m
unfolding day_of moment
read_back m e h =
    let day = shown m.date e in
    let year : number_in (text_of m) 0 4 ≡ m.date.year = digits_four m.date.year day.year in
    let month : number_in (text_of m) 5 2 ≡ m.date.month = digits_two m.date.month (omega (arith, day.month)) in
    let number : number_in (text_of m) 8 2 ≡ m.date.day = digits_two m.date.day (omega (arith, day.day)) in
    let hours : number_in (text_of m) 11 2 ≡ m.second / 3600 = digits_two (m.second / 3600) (omega (arith, h)) in
    let minutes : number_in (text_of m) 14 2 ≡ m.second / 60 % 60 = digits_two (m.second / 60 % 60) (omega arith) in
    let seconds : number_in (text_of m) 17 2 ≡ m.second % 60 = digits_two (m.second % 60) (omega arith) in
    let second : (moment_of (text_of m)).second ≡ m.second = omega (arith, hours, minutes, seconds) in
    ap₂ moment (ap (λ y. day_of y (number_in (text_of m) 5 2) (number_in (text_of m) 8 2)) year ∙ ap₂ (day_of m.date.year) month number) second

all_three : (a b c : Bool) → a ≡ true → b ≡ true → c ≡ true → IsTrue (a && b && c)
all_three true true true ha hb hc = refl
all_three true true false ha hb hc = cc
all_three true false c ha hb hc = cc
all_three false b c ha hb hc = cc

-- it is a stamp
pub stamped : (m : Moment) → is_date m.date ≡ true → m.second < 86400 → IsTrue (is_stamp (text_of m))
stamped m e h =
    let back = read_back m e h in
    all_three (is_date (moment_of (text_of m)).date) (nat_lt (moment_of (text_of m)).second 86400) (bytes_eq (text_of m) (text_of (moment_of (text_of m))))
    (ap (λ (x : Moment). is_date x.date) back ∙ e)
    (ap (λ (x : Moment). nat_lt x.second 86400) back ∙ below m.second h)
    (ap (λ (x : Moment). bytes_eq (text_of m) (text_of x)) back ∙ (bytes_eq-Decides (text_of m) (text_of m)).1 refl)
  where
    below : (n : ℕ) → n < 86400 → nat_lt n 86400 ≡ true
    below n h = grind (arith, nat_tests)

-- hours, minutes and seconds of a day
pub within_day : (h m s : ℕ) → h ≤ 23 → m ≤ 59 → s ≤ 59 → h * 3600 + m * 60 + s < 86400
within_day h m s hh hm hs = omega arith
