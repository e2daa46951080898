-- The next moment by the calendar is the next by the count of days and hours.
use Rattle.rw_base.proofs.Common.{◌≡◌, ℕ, zero, suc, ◌+◌, ◌-◌, ◌*◌, ◌<◌, ◌≤◌, nat_lt, ℤ, pos, ◌+ℤ◌, ◌*ℤ◌, refl, arith, cond_both, ltb-true, ltb-false}
use Rattle.jiff_core.specs.Calendar.{days_from_civil}
use Rattle.jiff_core.proofs.SignedLemmas.{signed_arith}
use Rattle.jiff_core.proofs.CalendarLemmas.{days_in_month_bounds}
use Rattle.jiff_core.proofs.DateLemmas.{days_from_civil-day, days_from_civil-next_month, days_from_civil-next_year}
use Rattle.std.proofs.Math.Nat.{mul-le-mul_right}
use Rattle.rw_calendar.specs.declared.step_length.StepLength.{StepLength}
use Rattle.rw_calendar.specs.declared.step_length.StepLength.TheVariants.{Hours, Month}
use Rattle.rw_calendar.specs.StepLength.{moment_after, CanBegin}
use Rattle.rw_calendar.specs.declared.moment.Moment.{Moment}
use Rattle.rw_calendar.specs.Moment.{IsMoment, days_in_month, next_month, next_day, next_hour, hours_later, months_later}

-- the days from 1970-01-01 to a moment's day
abbrev pub day_number : Moment → ℤ
day_number m = days_from_civil (pos m.year) m.month m.day

-- the hours from 1970-01-01 at hour 0 to a moment
abbrev pub hour_number : Moment → ℤ
hour_number m = day_number m *ℤ pos 24 +ℤ pos m.hour

-- the months to a moment's month
abbrev pub month_number : Moment → ℕ
month_number m = m.year * 12 + m.month

-- n is hour 0 of the first of the month after that of m
pub record FollowsMonth (m n : Moment) : Type 0 where
  pub moment : IsMoment n
  pub day : n.day ≡ 1
  pub hour : n.hour ≡ 0
  pub number : month_number n ≡ month_number m + 1
  pub days : day_number n ≡ days_from_civil (pos m.year) m.month (days_in_month m.year m.month) +ℤ pos 1

pub next_month_follows : (m : Moment) → IsMoment m → FollowsMonth m (next_month m)
next_month_follows m h =
    cond_both (nat_lt m.month 12) _ _ (FollowsMonth m)
    (λ e. let before : m.month < 12 = ltb-true m.month 12 e in record {
      moment = record {
        year = h.year;
        month = (omega arith, omega arith);
        day = (omega arith, omega (arith, days_in_month_bounds (pos m.year) (m.month + 1)));
        hour = omega arith;
      };
      day = refl;
      hour = refl;
      number = omega arith;
      days = days_from_civil-next_month (pos m.year) m.month _ h.month.0 refl;
    })
    (λ e. let last : m.month ≡ 12 = omega (arith, ltb-false m.month 12 e, h.month) in record {
      moment = record { year = omega arith; month = (omega arith, omega arith); day = (omega arith, omega arith); hour = omega arith };
      day = refl;
      hour = refl;
      number = omega arith;
      days = rw last (days_from_civil-next_year (pos m.year) (pos (m.year + 1)) (omega (arith, signed_arith)) refl);
    })

-- n is hour 0 of the day after that of m
pub record FollowsDay (m n : Moment) : Type 0 where
  pub moment : IsMoment n
  pub hour : n.hour ≡ 0
  pub later : m.year ≤ n.year
  pub days : day_number n ≡ day_number m +ℤ pos 1

pub next_day_follows : (m : Moment) → IsMoment m → FollowsDay m (next_day m)
next_day_follows m h =
    cond_both (nat_lt m.day (days_in_month m.year m.month)) _ _ (FollowsDay m)
    (λ e. let before = ltb-true m.day (days_in_month m.year m.month) e in record {
      moment = record { year = h.year; month = h.month; day = (omega arith, omega (arith, before)); hour = omega arith };
      hour = refl;
      later = omega arith;
      days = omega (arith, signed_arith, days_from_civil-day (pos m.year) m.month m.day (m.day + 1) h.day.0 (omega arith));
    })
    (λ e. let last : m.day ≡ days_in_month m.year m.month = omega (arith, ltb-false m.day (days_in_month m.year m.month) e, h.day) in
    let f = next_month_follows m h in record {
      moment = f.moment;
      hour = f.hour;
      later = omega (arith, f.number, f.moment.month, h.month);
      days = rw last f.days;
    })

-- n is one hour after m
pub record FollowsHour (m n : Moment) : Type 0 where
  pub moment : IsMoment n
  pub later : m.year ≤ n.year
  pub hours : hour_number n ≡ hour_number m +ℤ pos 1

pub next_hour_follows : (m : Moment) → IsMoment m → FollowsHour m (next_hour m)
next_hour_follows m h =
    cond_both (nat_lt m.hour 23) _ _ (FollowsHour m)
    (λ e. let before = ltb-true m.hour 23 e in record {
      moment = record { year = h.year; month = h.month; day = h.day; hour = omega (arith, before) };
      later = omega arith;
      hours = omega (arith, signed_arith);
    })
    (λ e. let last : m.hour ≡ 23 = omega (arith, ltb-false m.hour 23 e, h.hour) in
    let f = next_day_follows m h in record {
      moment = f.moment;
      later = f.later;
      hours = omega (arith, signed_arith, f.days, f.hour, last);
    })

-- n is so many hours after m
pub record IsHoursAfter (m n : Moment) (k : ℕ) : Type 0 where
  pub moment : IsMoment n
  pub later : m.year ≤ n.year
  pub hours : hour_number n ≡ hour_number m +ℤ pos k

pub hours_later_is : (m : Moment) (k : ℕ) → IsMoment m → IsHoursAfter m (hours_later m k) k
unfolding hours_later
hours_later_is m zero h = record { moment = h; later = omega arith; hours = omega (arith, signed_arith) }
hours_later_is m (suc k) h =
    let before = hours_later_is m k h in
    let f = next_hour_follows (hours_later m k) before.moment in record {
      moment = f.moment;
      later = omega (arith, f.later, before.later);
      hours = omega (arith, signed_arith, f.hours, before.hours);
    }

-- n is hour 0 of the first of the month that comes so many months after that of m
pub record IsMonthsAfter (m n : Moment) (k : ℕ) : Type 0 where
  pub moment : IsMoment n
  pub day : n.day ≡ 1
  pub hour : n.hour ≡ 0
  pub number : month_number n ≡ month_number m + k

pub months_later_is : (m : Moment) (k : ℕ) → IsMoment m → m.day ≡ 1 → m.hour ≡ 0 → IsMonthsAfter m (months_later m k) k
unfolding months_later
months_later_is m zero h day hour = record { moment = h; day = day; hour = hour; number = omega arith }
months_later_is m (suc k) h day hour =
    let before = months_later_is m k h day hour in
    let f = next_month_follows (months_later m k) before.moment in record {
      moment = f.moment;
      day = f.day;
      hour = f.hour;
      number = omega (arith, f.number, before.number);
    }

-- years do not fall, hour by hour
years_of_hours : (m : Moment) (k more : ℕ) → IsMoment m → (hours_later m k).year ≤ (hours_later m (more + k)).year
unfolding hours_later
years_of_hours m k zero h = let same : 0 + k ≡ k = omega arith in rw same (omega arith)
years_of_hours m k (suc more) h =
    let next : suc more + k ≡ suc (more + k) = omega arith in
    let f = next_hour_follows (hours_later m (more + k)) (hours_later_is m (more + k) h).moment in
    rw next (omega (arith, f.later, years_of_hours m k more h))

-- nor step by step
pub years_of_steps : (m : Moment) (length : StepLength) (k later : ℕ) → IsMoment m → CanBegin length m → k ≤ later
    → (moment_after m length k).year ≤ (moment_after m length later).year
years_of_steps m (Hours hours) k later h begin le =
    let more : later * hours - k * hours + k * hours ≡ later * hours = omega (arith, mul-le-mul_right hours le) in
    rw more at (years_of_hours m (k * hours) (later * hours - k * hours) h)
years_of_steps m Month k later h begin le =
    let here = months_later_is m k h begin.0 begin.1 in
    let there = months_later_is m later h begin.0 begin.1 in
    omega (arith, here.number, here.moment.month, there.number, there.moment.month)
