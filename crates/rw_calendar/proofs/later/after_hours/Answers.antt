use Rattle.std.proofs.Common.{arith}
use Rattle.jiff_core.proofs.SignedLemmas.{signed_arith}
use Rattle.rw_calendar.specs.Clock.{moment_at}
use Rattle.rw_calendar.specs.Moment.{hours_later}
use Rattle.rw_calendar.proofs.MomentFacts.{hours_later_is}
use Rattle.rw_calendar.proofs.ClockFacts.{reached, civil_nanos-moment_at, IsMoment-moment_at}
use Rattle.rw_calendar.proofs.later.after_hours.Goals as goal

pub returns : goal.returns
returns c =
    let start = civil_nanos-moment_at c.args.start c.requires in
    let later = hours_later_is (moment_at c.args.start) c.args.hours (IsMoment-moment_at c.args.start c.requires) in
    rw c.ok.ensures.value (reached c.checked_add.result _ (hours_later (moment_at c.args.start) c.args.hours) later.moment
    (omega (arith, signed_arith, start, later.hours, c.from_hours.ensures, c.from.ensures)) c.checked_add.ensures.succeeds.0
    (λ within. c.checked_add.ensures.succeeds.1) c.checked_add.ensures.value)
