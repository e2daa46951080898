-- The start of a run, and which starts there are.
use Rattle.std.specs.Prelude.{pos, ◌≤ℤ◌, unsigned_abs, Bool, ◌&&◌}
use Rattle.rw_base.specs.Range.{is_from_to}
use Rattle.rw_calendar.specs.declared.start.Start.{Start}
use Rattle.rw_calendar.specs.declared.moment.Moment.{Moment}
use Rattle.rw_calendar.specs.Moment.{moment_on, days_in_month}

-- the moment that a start names
abbrev pub moment_of : Start → Moment
moment_of s = moment_on (unsigned_abs s.year) (unsigned_abs s.month) (unsigned_abs s.day) (unsigned_abs s.hour)

-- a start that there is: a date of the years 1 to 9999, and an hour of the day
pub record IsStart (s : Start) : Type 0 where
  pub year : (pos 1 ≤ℤ s.year) × (s.year ≤ℤ pos 9999)
  pub month : (pos 1 ≤ℤ s.month) × (s.month ≤ℤ pos 12)
  pub day : (pos 1 ≤ℤ s.day) × (s.day ≤ℤ pos (days_in_month (unsigned_abs s.year) (unsigned_abs s.month)))
  pub hour : (pos 0 ≤ℤ s.hour) × (s.hour ≤ℤ pos 23)

-- the same, as a test
abbrev pub is_start : Start → Bool
is_start s =
    is_from_to (pos 1) (pos 9999) s.year && (is_from_to (pos 1) (pos 12) s.month
    && (is_from_to (pos 1) (pos (days_in_month (unsigned_abs s.year) (unsigned_abs s.month))) s.day
    && is_from_to (pos 0) (pos 23) s.hour))
