-- The moment that a date and time of the library shows.
use Rattle.std.specs.Prelude.{◌≡◌, ◌*◌, pos, ◌≤ℤ◌, unsigned_abs}
use Rattle.jiff.specs.Types.{DateTime}
use Rattle.jiff.specs.Words.{time_nanos}
use Rattle.rw_calendar.specs.declared.moment.Moment.{Moment}
use Rattle.rw_calendar.specs.Moment.{moment_on}

-- its year, month, day and hour
abbrev pub moment_at : DateTime → Moment
moment_at dt = moment_on (unsigned_abs dt.date.year) dt.date.month dt.date.day dt.time.hour

-- it is on the hour, and of a year from 1 on
pub record IsOnTheHour (dt : DateTime) : Type 0 where
  pub year : pos 1 ≤ℤ dt.date.year
  pub sharp : time_nanos dt.time ≡ dt.time.hour * 3_600_000_000_000

-- it shows the moment, and no minutes
pub record ShowsMoment (dt : DateTime) (m : Moment) : Type 0 where
  pub moment : moment_at dt ≡ m
  pub sharp : IsOnTheHour dt
