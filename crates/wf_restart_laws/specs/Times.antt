-- Texts of times: of a time counted from a later start, and no two alike.
use Rattle.std.specs.Prelude.{◌≡◌, ℕ, ◌+◌, ◌≤◌, IsTrue}
use Rattle.wf_model.specs.Letters.{Text}
use Rattle.wf_model.specs.Calendar.{moment_of, time_text}
use Rattle.wf_model.specs.Dates.{is_stamp, seconds_before, last_moment}

-- the start is a text of a moment, and so many seconds later the year is at most 9999
pub record IsInYears (start : Text) (n : ℕ) : Type 0 where
  pub stamp : IsTrue (is_stamp start)
  pub within : seconds_before (moment_of start) + n ≤ seconds_before last_moment

-- the text of a time is a text of a moment, which lies so many seconds after the start
abbrev pub TimeTextsAreStamps : Type 0
TimeTextsAreStamps =
    (start : Text) (n : ℕ) → IsInYears start n →
    IsTrue (is_stamp (time_text start n))
    × (seconds_before (moment_of (time_text start n)) ≡ seconds_before (moment_of start) + n)

-- so two times have two texts
abbrev pub TimeTextsAreApart : Type 0
TimeTextsAreApart =
    (start : Text) (a b : ℕ) → IsInYears start a → IsInYears start b →
    time_text start a ≡ time_text start b → a ≡ b

-- and a time has the same text from a later start, also past the year 9999
abbrev pub TimeTextsGoOn : Type 0
TimeTextsGoOn =
    (start : Text) (a b : ℕ) → IsInYears start a →
    time_text (time_text start a) b ≡ time_text start (a + b)
