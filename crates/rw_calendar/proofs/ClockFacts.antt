-- What the library's dates and times show, as moments.
use Rattle.rw_base.proofs.Common.{◌≡◌, ℕ, ◌<◌, ◌≤◌, inl, inr, MatchOption, min, ℤ, pos, negsuc, ◌+ℤ◌, ◌*ℤ◌, ◌≤ℤ◌, unsigned_abs, refl, sym, ◌∙◌, arith}
use Rattle.rw_base.proofs.Common.{cases_lt, Result, Ok, Err, IsOk, IfOk, result_ok}
use Rattle.jiff_core.specs.Calendar.{days_in_month}
use Rattle.jiff_core.proofs.SignedLemmas.{signed_arith}
use Rattle.jiff_core.proofs.CalendarLemmas.{days_in_month_bounds, days_from_civil-day_count, day_count-day_of_year, day_count-later_year}
use Rattle.jiff_core.proofs.CalendarLemmas.{day_count-next_year, day_count-end}
use Rattle.jiff_core.proofs.DateLemmas.{epoch_day_injective}
use Rattle.jiff_core.proofs.DateTimeLemmas.{civil_nanos-parts, civil_nanos_injective, civil_nanos_range, time_nanos_injective}
use Rattle.jiff.specs.Types.{DateTime}
use Rattle.jiff.specs.Words.{civil_nanos, IsCivilNanos, time_nanos, add_months, shifted_year, shifted_month}
use Rattle.rw_calendar.specs.declared.moment.Moment.{Moment}
use Rattle.rw_calendar.specs.Moment.{IsMoment, months_later}
use Rattle.rw_calendar.specs.Clock.{moment_at, IsOnTheHour, ShowsMoment}
use Rattle.rw_calendar.proofs.MomentFacts.{hour_number, months_later_is}

-- nanoseconds from 1970-01-01 at hour 0 to a moment
abbrev pub nanos_of : Moment → ℤ
nanos_of m = hour_number m *ℤ pos 3_600_000_000_000

-- a year from 1 on is its number without a sign
pub year_is : (z : ℤ) → pos 1 ≤ℤ z → z ≡ pos (unsigned_abs z)
year_is (pos n) h = refl
year_is (negsuc n) h = absurd (omega (arith, signed_arith))

pub IsMoment-moment_at : (dt : DateTime) → IsOnTheHour dt → IsMoment (moment_at dt)
IsMoment-moment_at dt h = record {
  year = omega (arith, signed_arith, h.year);
  month = dt.date.month_in;
  day = rw (year_is dt.date.year h.year) at dt.date.day_in;
  hour = dt.time.hour_in;
}

-- the library counts the nanoseconds to the moment that it shows
pub civil_nanos-moment_at : (dt : DateTime) → IsOnTheHour dt → civil_nanos dt ≡ nanos_of (moment_at dt)
civil_nanos-moment_at dt h =
    rw (← year_is dt.date.year h.year) (omega (arith, signed_arith, civil_nanos-parts dt, h.sharp))

-- a moment of the library's years, as the library has it
datetime_of : (m : Moment) → IsMoment m → m.year ≤ 9999 → DateTime
datetime_of m h within = record {
  date = record {
    year = pos m.year;
    month = m.month;
    day = m.day;
    year_in = (omega (arith, signed_arith), omega (arith, signed_arith));
    month_in = h.month;
    day_in = h.day;
  };
  time = record {
    hour = m.hour;
    minute = 0;
    second = 0;
    subsec_nanosecond = 0;
    hour_in = h.hour;
    minute_in = omega arith;
    second_in = omega arith;
    subsec_in = omega arith;
  };
}

civil_nanos-datetime_of : (m : Moment) (h : IsMoment m) (within : m.year ≤ 9999) → civil_nanos (datetime_of m h within) ≡ nanos_of m
unfolding datetime_of
civil_nanos-datetime_of m h within = omega (arith, signed_arith, civil_nanos-parts (datetime_of m h within))

-- a date and time with a moment's nanoseconds shows it
pub shows : (dt : DateTime) (m : Moment) → IsMoment m → m.year ≤ 9999 → civil_nanos dt ≡ nanos_of m → ShowsMoment dt m
unfolding datetime_of
shows dt m h within e =
    let same = civil_nanos_injective dt (datetime_of m h within) (e ∙ sym (civil_nanos-datetime_of m h within)) in
    let date = epoch_day_injective dt.date (datetime_of m h within).date same.0 in
    let time = time_nanos_injective dt.time (datetime_of m h within).time same.1 in
    record {
      moment = rw (date.0, date.1, date.2, time.0) refl;
      sharp = record {
        year = rw (date.0) (omega (arith, signed_arith, h.year));
        sharp = rw (time.0, time.1, time.2, time.3) (omega arith);
      };
    }

-- 10000-01-01 and each later day lies past the library's
beyond : (m : Moment) → IsMoment m → 9999 < m.year → IsCivilNanos (nanos_of m) → ⊥
beyond m h past fits =
    omega (
      arith,
      signed_arith,
      fits,
      days_from_civil-day_count (pos m.year) m.month m.day,
      day_count-day_of_year (pos m.year) m.month m.day h.day.0,
      day_count-later_year (pos 9999) (pos m.year) (omega (arith, signed_arith)) (omega (arith, signed_arith)),
      day_count-next_year (pos 9999) (pos 10000) (omega (arith, signed_arith)) refl,
      day_count-end,
    )

IsCivilNanos-nanos_of : (m : Moment) → IsMoment m → m.year ≤ 9999 → IsCivilNanos (nanos_of m)
IsCivilNanos-nanos_of m h within =
    rw (← civil_nanos-datetime_of m h within) (civil_nanos_range (datetime_of m h within))

-- what the library's arithmetic reaches is the moment with those nanoseconds, and it fails exactly past year 9999
pub reached : {E : Type 0} (r : Result DateTime E) (n : ℤ) (m : Moment) → IsMoment m → n ≡ nanos_of m → (IsOk r → IsCivilNanos n)
    → (m.year ≤ 9999 → IsCivilNanos n → IsOk r) → IfOk r (λ dt. civil_nanos dt ≡ n)
    → MatchOption (result_ok r) (9999 < m.year) (λ dt. ShowsMoment dt m)
reached (Ok dt) n m h e fits found value =
    elim (cases_lt 9999 m.year) [
      | inl past ↦ absurd (beyond m h past (rw e at (fits refl)))
      | inr within ↦ shows dt m h within (value ∙ e)
    ]
reached (Err error) n m h e fits found value =
    elim (cases_lt 9999 m.year) [
      | inl past ↦ past
      | inr within ↦ let ok = found within (rw e (IsCivilNanos-nanos_of m h within)) in cc
    ]

-- months later by the calendar are months later by the library: the year, the month and the nanoseconds
pub record IsShifted (dt : DateTime) (m : Moment) (k : ℕ) : Type 0 where
  pub year : shifted_year dt.date (pos k) ≡ pos m.year
  pub nanos : add_months dt.date (pos k) *ℤ pos 86_400_000_000_000 +ℤ pos (time_nanos dt.time) ≡ nanos_of m

pub months_later_shifted : (dt : DateTime) (k : ℕ) → IsOnTheHour dt → dt.date.day ≡ 1 → dt.time.hour ≡ 0
    → IsShifted dt (months_later (moment_at dt) k) k
months_later_shifted dt k h first midnight =
    let m = months_later (moment_at dt) k in
    let later = months_later_is (moment_at dt) k (IsMoment-moment_at dt h) first midnight in
    let year : shifted_year dt.date (pos k) ≡ pos m.year =
    omega (arith, signed_arith, later.number, later.moment.month, year_is dt.date.year h.year, dt.date.month_in) in
    let month : shifted_month dt.date (pos k) ≡ m.month =
    omega (arith, signed_arith, later.number, later.moment.month, year_is dt.date.year h.year, dt.date.month_in) in
    let day : min dt.date.day (days_in_month (shifted_year dt.date (pos k)) (shifted_month dt.date (pos k))) ≡ m.day =
    omega (arith, first, later.day, days_in_month_bounds (shifted_year dt.date (pos k)) (shifted_month dt.date (pos k))) in
    record {
      year = year;
      nanos = rw (day, year, month) (omega (arith, signed_arith, h.sharp, midnight, later.hour));
    }
