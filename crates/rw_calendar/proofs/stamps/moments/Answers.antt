use Rattle.std.proofs.Common.{◌≡◌, arith}
use Rattle.rw_calendar.specs.Clock.{moment_at}
use Rattle.rw_calendar.proofs.MomentsSoFar.{HasMoments-push}
use Rattle.rw_calendar.proofs.MomentFacts.{years_of_steps}
use Rattle.rw_calendar.proofs.ClockFacts.{IsMoment-moment_at}
use Rattle.rw_calendar.proofs.stamps.moments.Goals as goal
use Rattle.rw_calendar.proofs.stamps.moments.Goals.{else-loop-k-test, then-loop-k-test+in-Some+in_ok-push+else-k-steps}

pub unreachable-requires : goal.unreachable-requires
unreachable-requires c =
    omega (
      arith,
      c.in_default.ensures,
      c.requires.within,
      years_of_steps (moment_at c.args.start) c.args.length c.loop-k.k c.args.steps (IsMoment-moment_at c.args.start c.requires.sharp)
          c.requires.begin c.loop-k-test.true,
    )

pub loop-k-preserved : goal.loop-k-preserved
loop-k-preserved c =
    rw c.in_ok-push.ensures.items (HasMoments-push (moment_at c.args.start) c.args.length c.loop-k.k c.loop-k.moments.items c.in-Some.moment
    c.loop-k.invariant c.in-Some.ensures)

pub returns : goal.returns
returns c = elim c.loop-k-test.branch [
  | else-loop-k-test w ↦ absurd (omega arith)
  | then-loop-k-test+in-Some+in_ok-push+else-k-steps w ↦
      let last : c.loop-k.k ≡ c.args.steps = omega arith in
      rw (w.moments-is, w.in_ok-push.ensures.items, ← last)
      (HasMoments-push (moment_at c.args.start) c.args.length c.loop-k.k c.loop-k.moments.items w.in-Some.moment c.loop-k.invariant
      w.in-Some.ensures)
]
