-- The refusals of the calendar stand where their words say.
use Rattle.rw_base.proofs.Common.{◌≡◌, ◌∙◌, ◌<◌, ◌≤◌, ℕ, nat_lt, pos, Bool, true, false, if◌then◌else◌, Option, None, Some, refl, unsigned_abs, arith}
use Rattle.rw_base.proofs.Common.{◌↔◌, Decides, Decides-and, Decides-eqb, Decides-ltb, Decides-like, nat_tests}
use Rattle.rw_base.proofs.Tests.{Decides-from_to, fails, denied, unless, where-true}
use Rattle.rw_calendar.specs.declared.start.Start.{Start}
use Rattle.rw_calendar.specs.declared.step_length.StepLength.{StepLength}
use Rattle.rw_calendar.specs.declared.step_length.StepLength.TheVariants.{Hours, Month}
use Rattle.rw_calendar.specs.declared.moment.Moment.{Moment}
use Rattle.rw_calendar.specs.Moment.{days_in_month}
use Rattle.rw_calendar.specs.Start.{moment_of, IsStart, is_start}
use Rattle.rw_calendar.specs.StepLength.{CanBegin, can_begin}
use Rattle.rw_calendar.specs.Stamps.{timesteps_of, end_of_step, EndsBeyondYears, CanBeStamped, CalRefusal, bad_start, not_first_of_month}
use Rattle.rw_calendar.specs.Stamps.{beyond_years, stamps_refusal}

Decides-start : (s : Start) → Decides (is_start s) (IsStart s)
Decides-start s = Decides-like (is_start s)
    (λ p. record { year = p.0; month = p.1.0; day = p.1.1.0; hour = p.1.1.1 })
    (λ p. (p.year, (p.month, (p.day, p.hour))))
    (Decides-and _ _ (Decides-from_to (pos 1) (pos 9999) s.year) (Decides-and _ _ (Decides-from_to (pos 1) (pos 12) s.month)
    (Decides-and _ _ (Decides-from_to (pos 1) (pos (days_in_month (unsigned_abs s.year) (unsigned_abs s.month))) s.day)
    (Decides-from_to (pos 0) (pos 23) s.hour))))

Decides-begin : (length : StepLength) (m : Moment) → Decides (can_begin length m) (CanBegin length m)
Decides-begin (Hours h) m = (λ _. tt, λ _. refl)
Decides-begin Month m = Decides-and _ _ (Decides-eqb m.day 1) (Decides-eqb m.hour 0)

Decides-beyond : (start : Start) (length : StepLength) (steps : ℕ)
    → Decides (nat_lt 9999 (end_of_step (timesteps_of start length steps) steps).year)
    (9999 < (end_of_step (timesteps_of start length steps) steps).year)
Decides-beyond start length steps = Decides-ltb 9999 (end_of_step (timesteps_of start length steps) steps).year

-- the three tests in their order
abbrev chosen : Bool → Bool → Bool → Option CalRefusal
chosen a b c = if a then (if b then (if c then Some beyond_years else None) else Some not_first_of_month) else Some bad_start

none-is : (a b c : Bool) → chosen a b c ≡ None → (a ≡ true) × (b ≡ true) × (c ≡ false)
none-is true true false e = (refl, refl, refl)
none-is true true true e = cc
none-is true false c e = cc
none-is false b c e = cc

bad-is : (a b c : Bool) → chosen a b c ≡ Some bad_start → a ≡ false
bad-is true true false e = cc
bad-is true true true e = cc
bad-is true false c e = cc
bad-is false b c e = refl

first-is : (a b c : Bool) → chosen a b c ≡ Some not_first_of_month → (a ≡ true) × (b ≡ false)
first-is true true false e = cc
first-is true true true e = cc
first-is true false c e = (refl, refl)
first-is false b c e = cc

beyond-is : (a b c : Bool) → chosen a b c ≡ Some beyond_years → (a ≡ true) × (b ≡ true) × (c ≡ true)
beyond-is true true false e = cc
beyond-is true true true e = (refl, refl, refl)
beyond-is true false c e = cc
beyond-is false b c e = cc

within-is : (year : ℕ) → nat_lt 9999 year ≡ false → year ≤ 9999
within-is year e = let apart = denied (nat_lt 9999 year) (Decides-ltb 9999 year) e in grind (arith, nat_tests)

within-fails : (year : ℕ) → year ≤ 9999 → nat_lt 9999 year ≡ false
within-fails year h = fails (nat_lt 9999 year) (Decides-ltb 9999 year) (λ above. omega arith)

pub stamped-iff : (start : Start) (length : StepLength) (steps : ℕ) → (stamps_refusal start length steps ≡ None) ↔ CanBeStamped start length steps
stamped-iff start length steps = (
  λ e. let is =
      none-is (is_start start) (can_begin length (moment_of start)) (nat_lt 9999 (end_of_step (timesteps_of start length steps) steps).year) e in
      record {
        valid = (Decides-start start).0 is.0;
        begin = (Decides-begin length (moment_of start)).0 is.1;
        within = within-is (end_of_step (timesteps_of start length steps) steps).year is.2;
      },
  λ can.
      where-true (is_start start) _ _ ((Decides-start start).1 can.valid)
      ∙ where-true (can_begin length (moment_of start)) _ _ ((Decides-begin length (moment_of start)).1 can.begin)
      ∙ unless (nat_lt 9999 (end_of_step (timesteps_of start length steps) steps).year) _ _
      (within-fails (end_of_step (timesteps_of start length steps) steps).year can.within),
)

pub bad-iff : (start : Start) (length : StepLength) (steps : ℕ) → (stamps_refusal start length steps ≡ Some bad_start) ↔ (¬ IsStart start)
bad-iff start length steps = (
  λ e. denied (is_start start) (Decides-start start)
      (bad-is (is_start start) (can_begin length (moment_of start)) (nat_lt 9999 (end_of_step (timesteps_of start length steps) steps).year) e),
  λ no_start. unless (is_start start) _ _ (fails (is_start start) (Decides-start start) no_start),
)

pub first-iff : (start : Start) (length : StepLength) (steps : ℕ)
    → (stamps_refusal start length steps ≡ Some not_first_of_month) ↔ (IsStart start × ¬ CanBegin length (moment_of start))
first-iff start length steps = (
  λ e. let is =
      first-is (is_start start) (can_begin length (moment_of start)) (nat_lt 9999 (end_of_step (timesteps_of start length steps) steps).year) e in
      ((Decides-start start).0 is.0, denied (can_begin length (moment_of start)) (Decides-begin length (moment_of start)) is.1),
  λ h. where-true (is_start start) _ _ ((Decides-start start).1 h.0)
      ∙ unless (can_begin length (moment_of start)) _ _ (fails (can_begin length (moment_of start)) (Decides-begin length (moment_of start)) h.1),
)

pub beyond-iff : (start : Start) (length : StepLength) (steps : ℕ)
    → (stamps_refusal start length steps ≡ Some beyond_years)
    ↔ (IsStart start × CanBegin length (moment_of start) × EndsBeyondYears (timesteps_of start length steps))
beyond-iff start length steps = (
  λ e. let is =
      beyond-is (is_start start) (can_begin length (moment_of start)) (nat_lt 9999 (end_of_step (timesteps_of start length steps) steps).year) e in
      ((Decides-start start).0 is.0, (Decides-begin length (moment_of start)).0 is.1, (Decides-beyond start length steps).0 is.2),
  λ h. where-true (is_start start) _ _ ((Decides-start start).1 h.0)
      ∙ where-true (can_begin length (moment_of start)) _ _ ((Decides-begin length (moment_of start)).1 h.1)
      ∙ where-true (nat_lt 9999 (end_of_step (timesteps_of start length steps) steps).year) _ _ ((Decides-beyond start length steps).1 h.2),
)
