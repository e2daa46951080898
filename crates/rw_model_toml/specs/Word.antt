-- Words that stand for a choice.
use Rattle.std.specs.Prelude.{ℕ, List, if◌then◌else◌, Option, Some, None, bytes_eq, codes}
use Rattle.rw_calendar.specs.declared.step_length.StepLength.{StepLength}
use Rattle.rw_calendar.specs.declared.step_length.StepLength.TheVariants.{Hours, Month}
use Rattle.rw_model.specs.declared.control.AgendaOrder.{AgendaOrder}
use Rattle.rw_model.specs.declared.control.AgendaOrder.TheVariants.{HighFirst, LowFirst}
use Rattle.rw_model.specs.declared.kind.Supply.{Supply}
use Rattle.rw_model.specs.declared.kind.Supply.TheVariants.{Request, Rule}

-- how long each timestep is
abbrev pub step_length_in : List ℕ → Option StepLength
step_length_in word =
    if bytes_eq (codes "1h") word then Some (Hours 1)
    else (if bytes_eq (codes "6h") word then Some (Hours 6)
    else (if bytes_eq (codes "12h") word then Some (Hours 12)
    else (if bytes_eq (codes "24h") word then Some (Hours 24)
    else (if bytes_eq (codes "1month") word then Some Month else None))))

-- in which order rules are taken
abbrev pub agenda_in : List ℕ → Option AgendaOrder
agenda_in word =
    if bytes_eq (codes "123") word then Some HighFirst
    else (if bytes_eq (codes "321") word then Some LowFirst else None)

-- who sets what a water user diverts
abbrev pub supply_in : List ℕ → Option Supply
supply_in word =
    if bytes_eq (codes "request") word then Some Request
    else (if bytes_eq (codes "rule") word then Some Rule else None)
