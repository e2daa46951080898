use Rattle.rw_base.proofs.Common.{◌≤◌, arith, drop_all, length, string_bytes, subst}
use Rattle.rw_run.specs.Trace.{lines_in}
use Rattle.rw_rules.specs.Rules.{policy_in}
use Rattle.rw_retold.specs.Walk.{IsWalkedTo}
use Rattle.rw_retold.proofs.Walking.{stands_last}
use Rattle.rw_retold.proofs.retelling.tell_all.Goals as goal

pub loop-place-init : goal.loop-place-init
loop-place-init g c = (c.requires.walk, λ log whole stands. stands)

pub tell_at-requires-clause-walk : goal.tell_at-requires-clause-walk
tell_at-requires-clause-walk g c = c.loop-place.invariant.0

pub loop-place-preserved : goal.loop-place-preserved
loop-place-preserved g c = (
  c.tell_at.ensures.walk,
  λ log whole stands. c.in_ok-tell_at.ensures.goes log whole (c.loop-place.invariant.1 log whole stands),
)

pub returns : goal.returns
returns g c = λ log whole stands.
    let lines = lines_in c.args.trace.now in
    let basin = c.args.setup.now.basin.now in
    let policy = policy_in basin c.args.setup.now.policy.now in
    let place = c.loop-place.place in
    let all : length lines ≤ place = let end = c.len-place-end.ensures in omega (arith, c.loop-place-test.false, c.loop-place.auto.place-end, end) in
    stands_last basin policy log whole (string_bytes c.loop-place.text) c.loop-place.walk
    (subst (λ these. IsWalkedTo basin policy these log whole c.loop-place.walk (string_bytes c.loop-place.text)) (drop_all place lines all)
    (c.loop-place.invariant.1 log whole stands))
