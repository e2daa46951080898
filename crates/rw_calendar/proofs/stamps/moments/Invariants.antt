use Rattle.rw_calendar.specs.Clock.{moment_at}
use Rattle.rw_calendar.specs.Stamps.{HasMoments}
use Rattle.rw_calendar.proofs.stamps.moments.Given as goal

abbrev pub invariant-loop-k : goal.invariant-loop-k
invariant-loop-k l = HasMoments (moment_at l.start) l.length l.k l.moments.items
