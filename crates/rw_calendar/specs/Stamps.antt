-- The stamps of timesteps: where each step begins and ends, and how a moment is written.
use Rattle.std.specs.Prelude.{◌≡◌, ℕ, zero, suc, ◌+◌, ◌-◌, ◌/◌, ◌%◌, ◌<◌, ◌≤◌, nat_lt, if◌then◌else◌, List, [], ◌∷◌, ◌++◌, length, slice_index_or, codes, Option, Some, None, Result}
use Rattle.rw_calendar.specs.declared.limits.TheConstants.{STEPS_MAX}
use Rattle.std.specs.Result.{IsErrOf}
use Rattle.rw_base.specs.Answers.{unless_refused, Answers}
use Rattle.rw_calendar.specs.declared.fault.CalFault.{CalFault}
use Rattle.rw_calendar.specs.declared.fault.CalFault.TheVariants.{BadStart, NotFirstOfMonth, BeyondYears, NoMemory}
use Rattle.rw_calendar.specs.declared.start.Start.{Start}
use Rattle.rw_calendar.specs.declared.step_length.StepLength.{StepLength}
use Rattle.rw_calendar.specs.declared.moment.Moment.{Moment}
use Rattle.rw_calendar.specs.Moment.{IsDated}
use Rattle.rw_calendar.specs.Start.{moment_of, IsStart, is_start}
use Rattle.rw_calendar.specs.StepLength.{CanBegin, can_begin, moment_after}

-- the timesteps of a run
pub record Timesteps : Type 0 where
  pub start : Moment
  pub step_length : StepLength
  pub count : ℕ

-- step t, counted from 1, begins t - 1 step lengths after the start
abbrev pub begin_of : Timesteps → ℕ → Moment
begin_of run t = moment_after run.start run.step_length (t - 1)

-- and ends t step lengths after it
abbrev pub end_of_step : Timesteps → ℕ → Moment
end_of_step run t = moment_after run.start run.step_length t

-- the timesteps that so many steps of one length from a start make
abbrev pub timesteps_of : Start → StepLength → ℕ → Timesteps
timesteps_of start length steps = record { start = moment_of start; step_length = length; count = steps }

-- a run has at least one timestep and at most 4096, and where each begins and ends there is such a moment, of a year that dates are
-- written with
pub record AreTimesteps (run : Timesteps) : Type 0 where
  pub some : 1 ≤ run.count
  pub few : run.count ≤ STEPS_MAX
  pub dated : (k : ℕ) → k ≤ run.count → IsDated (moment_after run.start run.step_length k)

-- the last step ends past year 9999
abbrev pub EndsBeyondYears : Timesteps → Type 0
EndsBeyondYears run = 9999 < (end_of_step run run.count).year

-- the steps have stamps
pub record CanBeStamped (start : Start) (length : StepLength) (steps : ℕ) : Type 0 where
  pub valid : IsStart start
  pub begin : CanBegin length (moment_of start)
  pub within : (end_of_step (timesteps_of start length steps) steps).year ≤ 9999

-- why steps have no stamps
pub data CalRefusal : Type 0 where
  bad_start : CalRefusal
  not_first_of_month : CalRefusal
  beyond_years : CalRefusal

-- what a fault tells of the steps. Want of memory tells nothing of them
abbrev pub calendar_refusal_of : CalFault → Option CalRefusal
calendar_refusal_of BadStart = Some bad_start
calendar_refusal_of NotFirstOfMonth = Some not_first_of_month
calendar_refusal_of BeyondYears = Some beyond_years
calendar_refusal_of NoMemory = None

-- why so many steps of one length have no stamps, if they have none
abbrev pub stamps_refusal : Start → StepLength → ℕ → Option CalRefusal
stamps_refusal start length steps =
    if is_start start
    then (if can_begin length (moment_of start)
    then (if nat_lt 9999 (end_of_step (timesteps_of start length steps) steps).year then Some beyond_years else None)
    else Some not_first_of_month)
    else Some bad_start

-- their stamps
abbrev pub stamps_of : Start → StepLength → ℕ → Result Timesteps CalRefusal
stamps_of start length steps = unless_refused (stamps_refusal start length steps) (timesteps_of start length steps)

-- what a call that stamps them answers: the stamps, or the fault that tells why there are none. Memory is wanting only where there are some
pub record AnswersStamps (start : Start) (length : StepLength) (steps : ℕ) (result : Result Timesteps CalFault) : Type 0 where
  pub answers : Answers NoMemory calendar_refusal_of (λ stamps. stamps) result (stamps_of start length steps)
  pub no_memory : IsErrOf result NoMemory → CanBeStamped start length steps

-- a moment so many step lengths after the start, of a year that dates are written with
pub record IsMomentAfter (start : Moment) (step_length : StepLength) (k : ℕ) (m : Moment) : Type 0 where
  pub moment : m ≡ moment_after start step_length k
  pub dated : IsDated m

-- the list has the moments 0, 1, .. k - 1 step lengths after the start
pub record HasMoments (start : Moment) (step_length : StepLength) (k : ℕ) (moments : List Moment) : Type 0 where
  pub counted : length moments ≡ k
  pub each : (i : ℕ) → i < k → IsMomentAfter start step_length i (slice_index_or moments i start)

-- a number in so many digits
abbrev pub in_digits : ℕ → ℕ → List ℕ
in_digits zero n = []
in_digits (suc k) n = in_digits k (n / 10) ++ (48 + n % 10) ∷ []

-- `2020-02-01T00:00`
abbrev pub stamp_text : Moment → List ℕ
stamp_text m =
    in_digits 4 m.year ++ codes "-" ++ in_digits 2 m.month ++ codes "-" ++ in_digits 2 m.day
    ++ codes "T" ++ in_digits 2 m.hour ++ codes ":00"
