-- The moment that a date with a time of day shows.
use Rattle.std.specs.Prelude.{◌≡◌, ◌≤ℤ◌, pos, unsigned_abs}
use Rattle.jiff.specs.Types.{DateTime}
use Rattle.wf_model.specs.Calendar.{Moment}
use Rattle.wf_stamp.specs.Moments.{day_at, moment_at}

abbrev pub shown : DateTime → Moment
shown t = moment_at (day_at (unsigned_abs t.date.year) t.date.month t.date.day) t.time.hour
    t.time.minute t.time.second

-- it lies in the years from 1 on, at a whole second
pub record IsWholeSecond (t : DateTime) : Type 0 where
  pub first_year : pos 1 ≤ℤ t.date.year
  pub whole : t.time.subsec_nanosecond ≡ 0
