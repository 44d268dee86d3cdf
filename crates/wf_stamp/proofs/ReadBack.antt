-- The text of a moment, read back.
use Rattle.std.proofs.Common.{◌≡◌, ℕ, ◌/◌, ◌%◌, ◌<◌, ◌≤◌, true, ◌&&◌, IsTrue, List, ◌++◌, refl, sym, ap, ap₂, subst, ◌∙◌, arith}
use Rattle.std.specs.Str.{bytes_eq}
use Rattle.std.proofs.lemmas.Bool.Decides.{nat_tests}
use Rattle.std.proofs.lemmas.Slice.Eq.{bytes_eq-Decides}
use Rattle.wf_model.specs.Calendar.{Day, Moment, two_digits, text_of, number_in, moment_of}
use Rattle.wf_model.specs.Dates.{is_date, is_stamp}
use Rattle.wf_model.specs.Letters.{digits_value}
use Rattle.wf_stamp.specs.Moments.{day_at, is_clock, is_moment}
use Rattle.wf_stamp.proofs.Days.{IsDay-from_is_date}
use Rattle.wf_stamp.proofs.Laws.{date_of_moment, second_of_moment}

-- two digits say the number that they were made of
digits_value-two_digits : (n : ℕ) → n < 100 → digits_value (two_digits n) ≡ n
digits_value-two_digits n h = omega arith

-- and so do four
digits_value-four_digits : (n : ℕ) → n ≤ 9999 → digits_value (two_digits (n / 100) ++ two_digits (n % 100)) ≡ n
digits_value-four_digits n h = omega arith

-- hours, minutes and seconds of a text
pub clock-text_of : (m : Moment) → m.second < 86400 → (number_in (text_of m) 11 2 ≡ m.second / 3600) × (number_in (text_of m) 14 2 ≡ m.second / 60 % 60) × (number_in (text_of m) 17 2 ≡ m.second % 60)
clock-text_of m h = (digits_value-two_digits _ (omega arith), digits_value-two_digits _ (omega arith), digits_value-two_digits _ (omega arith))

-- a moment of a day and a second
moment_record : Day → ℕ → Moment
moment_record d s = record { date = d; second = s }

-- a moment's text says that moment
pub moment_of-text_of : (m : Moment) → IsTrue (is_moment m) → moment_of (text_of m) ≡ m
unfolding moment_record
moment_of-text_of m h =
    let second = second_of_moment m h in
    let day = IsDay-from_is_date m.date (date_of_moment m h) in
    let clock = clock-text_of m second in
    let year : number_in (text_of m) 0 4 ≡ m.date.year = digits_value-four_digits m.date.year day.1 in
    let month : number_in (text_of m) 5 2 ≡ m.date.month = digits_value-two_digits m.date.month (omega (arith, day.0.month_end)) in
    let number : number_in (text_of m) 8 2 ≡ m.date.day = digits_value-two_digits m.date.day (grind (arith, day.0.day_end)) in
    let seconds : (moment_of (text_of m)).second ≡ m.second = omega (arith, clock) in
    ap₂ moment_record (ap (λ y. day_at y (number_in (text_of m) 5 2) (number_in (text_of m) 8 2)) year ∙ ap₂ (day_at m.date.year) month number) seconds

-- a moment's text is a stamp
pub is_stamp-text_of : (m : Moment) → IsTrue (is_moment m) → IsTrue (is_stamp (text_of m))
is_stamp-text_of m h =
    let same : bytes_eq (text_of m) (text_of m) ≡ true = (bytes_eq-Decides (text_of m) (text_of m)).1 refl in
    let whole : IsTrue (is_moment m && bytes_eq (text_of m) (text_of m)) = rw same (grind (arith, nat_tests)) in
    subst (λ (x : Moment). IsTrue (is_moment x && bytes_eq (text_of m) (text_of x))) (sym (moment_of-text_of m h)) whole

-- a stamp is the text of the moment that it says
text_of-moment_of : (text : List ℕ) → IsTrue (is_stamp text) → IsTrue (is_moment (moment_of text)) × (text ≡ text_of (moment_of text))
text_of-moment_of text h =
    let same : bytes_eq text (text_of (moment_of text)) ≡ true = grind (arith, nat_tests) in
    (grind (arith, nat_tests), (bytes_eq-Decides text (text_of (moment_of text))).0 same)

-- the parts that a stamp says are those of a day and a clock
pub parts-of_stamp : (text : List ℕ) → IsTrue (is_stamp text) → IsTrue (is_date (moment_of text).date && is_clock (number_in text 11 2) (number_in text 14 2) (number_in text 17 2))
parts-of_stamp text h =
    let t = text_of-moment_of text h in
    let m = moment_of text in
    let date = date_of_moment m t.0 in
    let second = second_of_moment m t.0 in
    let clock = clock-text_of m second in
    let hour : number_in text 11 2 < 24 = omega (arith, ap (λ x. number_in x 11 2) t.1, clock) in
    let minute : number_in text 14 2 < 60 = omega (arith, ap (λ x. number_in x 14 2) t.1, clock) in
    let last : number_in text 17 2 < 60 = omega (arith, ap (λ x. number_in x 17 2) t.1, clock) in
    grind (arith, nat_tests)
