-- That the timesteps of stamps are those of a run.
use Rattle.rw_base.proofs.Common.{◌≡◌, ◌≤◌, ◌+◌, ◌*◌, ℕ, ℤ, pos, negsuc, List, refl, subst, arith, ◌≤ℤ◌, unsigned_abs}
use Rattle.jiff_core.proofs.SignedLemmas.{signed_arith}
use Rattle.rw_calendar.specs.declared.moment.Moment.{Moment}
use Rattle.rw_calendar.specs.declared.start.Start.{Start}
use Rattle.rw_calendar.specs.declared.step_length.StepLength.{StepLength}
use Rattle.rw_calendar.specs.declared.step_length.StepLength.TheVariants.{Hours, Month}
use Rattle.rw_calendar.specs.Moment.{IsDated, IsMoment}
use Rattle.rw_calendar.specs.Start.{IsStart, moment_of}
use Rattle.rw_calendar.specs.StepLength.{CanBegin, moment_after}
use Rattle.rw_calendar.specs.Stamps.{AreTimesteps, CanBeStamped, HasMoments, timesteps_of}
use Rattle.rw_calendar.proofs.MomentFacts.{hours_later_is, months_later_is, years_of_steps}

-- those of which each moment was found
pub are-found : (start : Moment) (length : StepLength) (count : ℕ) (moments : List Moment) → 1 ≤ count → count ≤ 4096
    → HasMoments start length (count + 1) moments → AreTimesteps (record { start = start; step_length = length; count = count })
are-found start length count moments some few has = record {
  some = some;
  few = few;
  dated = λ k within. let at = has.each k (omega (arith, within)) in subst IsDated at.moment at.dated;
}

abs_is : (z : ℤ) → pos 0 ≤ℤ z → z ≡ pos (unsigned_abs z)
abs_is (pos n) h = refl
abs_is (negsuc n) h = absurd (omega (arith, signed_arith, h))

start_is : (s : Start) → IsStart s → IsMoment (moment_of s)
start_is s is =
    let year = abs_is s.year (omega (arith, signed_arith, is.year.0)) in
    let month = abs_is s.month (omega (arith, signed_arith, is.month.0)) in
    let day = abs_is s.day (omega (arith, signed_arith, is.day.0)) in
    let hour = abs_is s.hour is.hour.0 in record {
      year = omega (arith, signed_arith, year, is.year.0);
      month = (omega (arith, signed_arith, month, is.month.0), omega (arith, signed_arith, month, is.month.1));
      day = (omega (arith, signed_arith, day, is.day.0), omega (arith, signed_arith, day, is.day.1));
      hour = omega (arith, signed_arith, hour, is.hour.1);
    }

moment_there : (m : Moment) (length : StepLength) (k : ℕ) → IsMoment m → CanBegin length m → IsMoment (moment_after m length k)
moment_there m (Hours hours) k is begin = (hours_later_is m (k * hours) is).moment
moment_there m Month k is begin = (months_later_is m k is begin.0 begin.1).moment

-- those that can be stamped
pub are_stamped : (start : Start) (length : StepLength) (steps : ℕ) → 1 ≤ steps → steps ≤ 4096 → CanBeStamped start length steps
    → AreTimesteps (timesteps_of start length steps)
are_stamped start length steps some few can =
    let m = start_is start can.valid in record {
      some = some;
      few = few;
      dated = λ k within. record {
        moment = moment_there (moment_of start) length k m can.begin;
        within =
            (let last = can.within in let years = years_of_steps (moment_of start) length k steps m can.begin within in omega (arith, last, years));
      };
    }
