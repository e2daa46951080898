-- What a call that answers the definition of stamps answers: its faults stand where the refusals do.
use Rattle.rw_base.proofs.Common.{◌≡◌, ◌∙◌, ℕ, Option, None, Some, Result, Ok, Err, sym, refl, IfOk, OnOk}
use Rattle.rw_base.proofs.Common.{◌↔◌}
use Rattle.std.specs.Result.{IsErrOf}
use Rattle.rw_base.specs.Answers.{unless_refused, Answers}
use Rattle.rw_calendar.specs.declared.fault.CalFault.{CalFault}
use Rattle.rw_calendar.specs.declared.fault.CalFault.TheVariants.{BadStart, NotFirstOfMonth, BeyondYears, NoMemory}
use Rattle.rw_calendar.specs.declared.start.Start.{Start}
use Rattle.rw_calendar.specs.declared.step_length.StepLength.{StepLength}
use Rattle.rw_calendar.specs.Start.{moment_of, IsStart}
use Rattle.rw_calendar.specs.StepLength.{CanBegin}
use Rattle.rw_calendar.specs.Stamps.{Timesteps, timesteps_of, EndsBeyondYears, CanBeStamped, AnswersStamps, CalRefusal, bad_start, not_first_of_month}
use Rattle.rw_calendar.specs.Stamps.{beyond_years, calendar_refusal_of, stamps_refusal}
use Rattle.rw_calendar.proofs.Refusals.{stamped-iff, bad-iff, first-iff, beyond-iff}

abbrev Stamped : Option CalRefusal → Timesteps → Result Timesteps CalFault → Type 0
Stamped why run result = Answers NoMemory calendar_refusal_of (λ stamps. stamps) result (unless_refused why run)

-- which fault tells a refusal
abbrev fault_of : CalRefusal → CalFault
fault_of bad_start = BadStart
fault_of not_first_of_month = NotFirstOfMonth
fault_of beyond_years = BeyondYears

same_run : (why : Option CalRefusal) (run : Timesteps) (result : Result Timesteps CalFault) → Stamped why run result
    → IfOk result (λ stamps. stamps ≡ run)
same_run None run (Ok stamps) h = cc
same_run (Some why) run (Ok stamps) h = cc
same_run why run (Err fault) h = tt

unrefused : (why : Option CalRefusal) (run : Timesteps) (stamps : Timesteps) → Stamped why run (Ok stamps) → why ≡ None
unrefused None run stamps h = refl
unrefused (Some why) run stamps h = cc

refused : (why : Option CalRefusal) (run : Timesteps) (refusal : CalRefusal) → unless_refused why run ≡ Err refusal → why ≡ Some refusal
refused None run refusal h = cc
refused (Some why) run refusal h = cc

-- a fault that tells a refusal comes only where that stands
tells : (why : Option CalRefusal) (run : Timesteps) (refusal : CalRefusal) (result : Result Timesteps CalFault) → Stamped why run result
    → result ≡ Err (fault_of refusal) → why ≡ Some refusal
tells why run refusal (Ok stamps) h e = cc
tells why run bad_start (Err BadStart) h e = refused why run bad_start (h.0 _ refl)
tells why run bad_start (Err NotFirstOfMonth) h e = cc
tells why run bad_start (Err BeyondYears) h e = cc
tells why run bad_start (Err NoMemory) h e = cc
tells why run not_first_of_month (Err BadStart) h e = cc
tells why run not_first_of_month (Err NotFirstOfMonth) h e = refused why run not_first_of_month (h.0 _ refl)
tells why run not_first_of_month (Err BeyondYears) h e = cc
tells why run not_first_of_month (Err NoMemory) h e = cc
tells why run beyond_years (Err BadStart) h e = cc
tells why run beyond_years (Err NotFirstOfMonth) h e = cc
tells why run beyond_years (Err BeyondYears) h e = refused why run beyond_years (h.0 _ refl)
tells why run beyond_years (Err NoMemory) h e = cc

abbrev failed : CalFault → Result Timesteps CalFault
failed fault = Err fault

one_fault : (refusal other : CalRefusal) → Some refusal ≡ Some other → failed (fault_of other) ≡ failed (fault_of refusal)
one_fault refusal other e = cc

-- and wherever it does
told : (why : Option CalRefusal) (run : Timesteps) (refusal : CalRefusal) (result : Result Timesteps CalFault) → Stamped why run result
    → (IsErrOf result NoMemory → why ≡ None) → why ≡ Some refusal → result ≡ Err (fault_of refusal)
told why run refusal (Ok stamps) h wanting e = let none = unrefused why run stamps h in cc
told why run refusal (Err BadStart) h wanting e = one_fault refusal bad_start (sym e ∙ refused why run bad_start (h.0 _ refl))
told why run refusal (Err NotFirstOfMonth) h wanting e =
    one_fault refusal not_first_of_month (sym e ∙ refused why run not_first_of_month (h.0 _ refl))
told why run refusal (Err BeyondYears) h wanting e = one_fault refusal beyond_years (sym e ∙ refused why run beyond_years (h.0 _ refl))
told why run refusal (Err NoMemory) h wanting e = let none = wanting refl in cc

pub ok_is : (start : Start) (length : StepLength) (steps : ℕ) (result : Result Timesteps CalFault) → AnswersStamps start length steps result
    → IfOk result (λ stamps. stamps ≡ timesteps_of start length steps)
ok_is start length steps result is = same_run (stamps_refusal start length steps) (timesteps_of start length steps) result is.answers

stamped_of : (start : Start) (length : StepLength) (steps : ℕ) (result : Result Timesteps CalFault)
    → Stamped (stamps_refusal start length steps) (timesteps_of start length steps) result → OnOk result (CanBeStamped start length steps)
stamped_of start length steps (Ok stamps) h =
    (stamped-iff start length steps).0 (unrefused (stamps_refusal start length steps) (timesteps_of start length steps) stamps h)
stamped_of start length steps (Err fault) h = tt

pub stamped_is : (start : Start) (length : StepLength) (steps : ℕ) (result : Result Timesteps CalFault) → AnswersStamps start length steps result
    → OnOk result (CanBeStamped start length steps)
stamped_is start length steps result is = stamped_of start length steps result is.answers

-- a fault comes exactly where what its refusal means holds
comes : {P : Type 0} (start : Start) (length : StepLength) (steps : ℕ) (result : Result Timesteps CalFault) (refusal : CalRefusal)
    → AnswersStamps start length steps result → ((stamps_refusal start length steps ≡ Some refusal) ↔ P) → (result ≡ Err (fault_of refusal)) ↔ P
comes start length steps result refusal is stands = (
  λ e. stands.0 (tells (stamps_refusal start length steps) (timesteps_of start length steps) refusal result is.answers e),
  λ p. told (stamps_refusal start length steps) (timesteps_of start length steps) refusal result is.answers
      (λ e. (stamped-iff start length steps).1 (is.no_memory e)) (stands.1 p),
)

pub bad_start_is : (start : Start) (length : StepLength) (steps : ℕ) (result : Result Timesteps CalFault)
    → AnswersStamps start length steps result → IsErrOf result BadStart ↔ (¬ IsStart start)
bad_start_is start length steps result is = comes start length steps result bad_start is (bad-iff start length steps)

pub not_first_is : (start : Start) (length : StepLength) (steps : ℕ) (result : Result Timesteps CalFault)
    → AnswersStamps start length steps result → IsErrOf result NotFirstOfMonth ↔ (IsStart start × ¬ CanBegin length (moment_of start))
not_first_is start length steps result is = comes start length steps result not_first_of_month is (first-iff start length steps)

pub beyond_is : (start : Start) (length : StepLength) (steps : ℕ) (result : Result Timesteps CalFault)
    → AnswersStamps start length steps result
    → IsErrOf result BeyondYears ↔ (IsStart start × CanBegin length (moment_of start) × EndsBeyondYears (timesteps_of start length steps))
beyond_is start length steps result is = comes start length steps result beyond_years is (beyond-iff start length steps)
