use Rattle.rw_base.proofs.Common.{◌≡◌, ◌≤◌, ◌+◌, ◌∷◌, Bool, List, ap, arith, drop, false, if◌then◌else◌, true, ℕ}
use Rattle.rw_run.specs.Trace.{lines_in}
use Rattle.rw_run.specs.declared.trace.TraceEvent.{TraceEvent}
use Rattle.rw_report.proofs.Growing.{here}
use Rattle.rw_sample.specs.Line.{lines_counted, one_if_told, tells}
use Rattle.rw_sample.specs.declared.counted.Counted.{Counted}
use Rattle.rw_sample.proofs.counted.count_in.Goals as goal

-- one line more is counted
counts_on : (counted : Counted) (lines left : List TraceEvent) (line : TraceEvent) (count next whole : ℕ)
    → count + lines_counted counted lines ≡ whole → lines ≡ line ∷ left → next ≡ count + one_if_told counted line
    → next + lines_counted counted left ≡ whole
counts_on counted lines left line count next whole before is more =
    let split = ap (lines_counted counted) is in omega (arith, before, split, more)

at_most_1 : (counted : Counted) (line : TraceEvent) → one_if_told counted line ≤ 1
at_most_1 counted line = by_test (tells counted line)
  where
    by_test : (told : Bool) → (if told then 1 else 0) ≤ 1
    by_test true = omega arith
    by_test false = omega arith

pub loop-place-preserved : goal.loop-place-preserved
loop-place-preserved c =
    let lines : List TraceEvent = lines_in c.args.trace.now in
    let place = c.loop-place.place in
    let line = c.line_at.result in
    let more = c.count_behind-count.ensures in
    let one = at_most_1 c.args.counted line in
    let few = c.loop-place.invariant.few in
    record {
      whole =
          counts_on c.args.counted (drop place lines) (drop (place + 1) lines) line c.loop-place.count c.count_behind-count.result
          (lines_counted c.args.counted lines)
          c.loop-place.invariant.whole (here lines place line c.line_at.ensures) more;
      few = omega (arith, more, one, few);
    }
