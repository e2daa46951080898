use Rattle.std.proofs.Common.{◌∙◌, ap, pos, arith}
use Rattle.jiff_core.proofs.CalendarLemmas.{days_in_month_bounds}
use Rattle.rw_calendar.specs.Stamps.{stamp_text}
use Rattle.rw_calendar.proofs.TextFacts.{two_digits, four_digits}
use Rattle.rw_calendar.proofs.stamps.Stamps.text.Goals as goal

pub returns : goal.returns
returns c =
    let end = c.moment-year.result in
    let dated = c.moment-year.ensures.dated in
    let year = four_digits end.year (omega (arith, dated.within)) in
    let month = two_digits end.month (omega (arith, dated.moment.month)) in
    let day = two_digits end.day (omega (arith, dated.moment.day, days_in_month_bounds (pos end.year) end.month)) in
    let hour = two_digits end.hour (omega (arith, dated.moment.hour)) in
    let written =
    rw (c.laid_out.ensures, c.laid_out-2.ensures, c.laid_out-3.ensures, c.laid_out-4.ensures, year, month, day, hour) at
    c.in_ok-format.ensures.ok in
    written ∙ ap stamp_text c.moment-year.ensures.moment
