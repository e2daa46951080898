-- Step lengths: which there are, where steps of one can begin, and where so many of them lead.
use Rattle.std.specs.Prelude.{◌≡◌, ℕ, ◌*◌, ◌⊎◌, ◌==◌, Bool, true, ◌&&◌}
use Rattle.rw_calendar.specs.declared.step_length.StepLength.{StepLength}
use Rattle.rw_calendar.specs.declared.step_length.StepLength.TheVariants.{Hours, Month}
use Rattle.rw_calendar.specs.declared.moment.Moment.{Moment}
use Rattle.rw_calendar.specs.Moment.{hours_later, months_later}

-- the step lengths that there are
abbrev pub IsStepLength : StepLength → Type 0
IsStepLength (Hours h) = (h ≡ 1) ⊎ ((h ≡ 6) ⊎ ((h ≡ 12) ⊎ (h ≡ 24)))
IsStepLength Month = Unit {0}

-- steps of this length can begin at the moment: months begin on the first at hour 0
abbrev pub CanBegin : StepLength → Moment → Type 0
CanBegin (Hours h) m = Unit {0}
CanBegin Month m = (m.day ≡ 1) × (m.hour ≡ 0)

-- the same, as a test
abbrev pub can_begin : StepLength → Moment → Bool
can_begin (Hours h) m = true
can_begin Month m = m.day == 1 && m.hour == 0

-- so many step lengths after a moment
abbrev pub moment_after : Moment → StepLength → ℕ → Moment
moment_after start (Hours h) k = hours_later start (k * h)
moment_after start Month k = months_later start k
