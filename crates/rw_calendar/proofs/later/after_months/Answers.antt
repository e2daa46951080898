use Rattle.rw_base.proofs.Common.{◌≡◌, ◌∙◌, ◌+ℤ◌, ◌*ℤ◌, pos, arith, FitsSigned, w64, to_z-of_z}
use Rattle.jiff_core.proofs.SignedLemmas.{signed_arith}
use Rattle.jiff.specs.Words.{span_months, span_days, clock_nanos, datetime_add, add_months, time_nanos}
use Rattle.rw_calendar.specs.Clock.{moment_at}
use Rattle.rw_calendar.specs.Moment.{months_later}
use Rattle.rw_calendar.proofs.MomentFacts.{months_later_is}
use Rattle.rw_calendar.proofs.ClockFacts.{reached, months_later_shifted, IsMoment-moment_at}
use Rattle.rw_calendar.proofs.later.after_months.Goals as goal

pub returns : goal.returns
returns c =
    let f8 : FitsSigned w64 c.from.result = omega (arith, signed_arith, c.from.ensures, c.requires.few) in
    let only = simp to_z-of_z at c.months.ensures in
    let m : span_months c.months.result ≡ pos c.args.months = omega (arith, signed_arith, only.months, c.from.ensures) in
    let d : span_days c.months.result ≡ pos 0 = omega (arith, signed_arith, only.days) in
    let k : clock_nanos c.months.result ≡ pos 0 = omega (arith, signed_arith, only.clock) in
    let added : datetime_add c.args.start c.months.result
    ≡ add_months c.args.start.date (pos c.args.months) *ℤ pos 86_400_000_000_000 +ℤ pos (time_nanos c.args.start.time) =
    rw (m, d, k) (omega (arith, signed_arith)) in
    let shifted = months_later_shifted c.args.start c.args.months c.requires.sharp c.requires.first c.requires.midnight in
    let later =
    months_later_is (moment_at c.args.start) c.args.months (IsMoment-moment_at c.args.start c.requires.sharp) c.requires.first
    c.requires.midnight in
    rw c.ok.ensures.value (reached c.checked_add.result _ (months_later (moment_at c.args.start) c.args.months) later.moment (added ∙ shifted.nanos)
    (λ ok. (c.checked_add.ensures.succeeds.0 ok).1)
    (λ within fits. c.checked_add.ensures.succeeds.1 (rw (m, shifted.year) (omega (arith, signed_arith, within)), fits))
    c.checked_add.ensures.value)
