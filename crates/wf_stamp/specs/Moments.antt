-- Moments by their parts, and which of them a stamp can be.
use Rattle.std.specs.Prelude.{ℕ, ◌+◌, ◌*◌, Bool, ◌&&◌, nat_lt}
use Rattle.wf_model.specs.Calendar.{Day, Moment}
use Rattle.wf_model.specs.Dates.{is_date}

abbrev pub day_at : ℕ → ℕ → ℕ → Day
day_at year month day = record { year = year; month = month; day = day }

-- a clock shows this hour, minute and second
abbrev pub is_clock : ℕ → ℕ → ℕ → Bool
is_clock hour minute second = nat_lt hour 24 && nat_lt minute 60 && nat_lt second 60

-- the moment of a day at this hour, minute and second
abbrev pub moment_at : Day → ℕ → ℕ → ℕ → Moment
moment_at date hour minute second =
    record { date = date; second = hour * 3600 + minute * 60 + second }

-- a moment of the years 1 to 9999
abbrev pub is_moment : Moment → Bool
is_moment m = is_date m.date && nat_lt m.second 86400
