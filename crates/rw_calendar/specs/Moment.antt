-- Moments on the hour, in the civil calendar, and which moment comes next.
use Rattle.std.specs.Prelude.{ℕ, zero, suc, ◌+◌, ◌%◌, ◌≤◌, ◌<◌, Bool, not, ◌&&◌, ◌||◌, ◌==◌, nat_lt, if◌then◌else◌}
use Rattle.rw_calendar.specs.declared.moment.Moment.{Moment}

-- the moment of this year, month, day and hour
abbrev pub moment_on : ℕ → ℕ → ℕ → ℕ → Moment
moment_on y m d h = record { year = y; month = m; day = d; hour = h }

-- every fourth year is a leap year, but of the centuries only every fourth
abbrev pub is_leap : ℕ → Bool
is_leap year = (year % 4 == 0) && (not (year % 100 == 0) || (year % 400 == 0))

-- February has 28 days and in a leap year 29; April, June, September and November have 30, the others 31
abbrev pub days_in_month : ℕ → ℕ → ℕ
days_in_month year month =
    if month == 2 then (if is_leap year then 29 else 28)
    else (if (month == 4) || (month == 6) || (month == 9) || (month == 11) then 30 else 31)

-- the calendar and the clock have this moment
pub record IsMoment (m : Moment) : Type 0 where
  pub year : 1 ≤ m.year
  pub month : (1 ≤ m.month) × (m.month ≤ 12)
  pub day : (1 ≤ m.day) × (m.day ≤ days_in_month m.year m.month)
  pub hour : m.hour < 24

-- it is of a year that dates are written with
pub record IsDated (m : Moment) : Type 0 where
  pub moment : IsMoment m
  pub within : m.year ≤ 9999

-- the next month begins on its first at hour 0
abbrev pub next_month : Moment → Moment
next_month m =
    if nat_lt m.month 12 then moment_on m.year (m.month + 1) 1 0
    else moment_on (m.year + 1) 1 1 0

-- the next day begins at its hour 0, after the last of a month with the next month
abbrev pub next_day : Moment → Moment
next_day m =
    if nat_lt m.day (days_in_month m.year m.month)
    then moment_on m.year m.month (m.day + 1) 0
    else next_month m

-- the next hour, after hour 23 that with which the next day begins
abbrev pub next_hour : Moment → Moment
next_hour m =
    if nat_lt m.hour 23 then moment_on m.year m.month m.day (m.hour + 1)
    else next_day m

-- so many hours later
unfoldable pub hours_later : Moment → ℕ → Moment
hours_later m zero = m
hours_later m (suc n) = next_hour (hours_later m n)

-- the beginning of the month that comes so many months later
unfoldable pub months_later : Moment → ℕ → Moment
months_later m zero = m
months_later m (suc n) = next_month (months_later m n)
