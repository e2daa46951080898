use Rattle.rw_base.proofs.Common.{IsSome, Some, ap, arith, false≢true, length, refl, slice_get, subst, sym, ◌+◌, ◌<◌, ◌≤◌, ◌∙◌, ◌≡◌}
use Rattle.rw_model.specs.Turn.{IsStep}
use Rattle.rw_rerun.proofs.Sessions.{entry_there}
use Rattle.rw_rerun.proofs.Standing.{goes_on, replays_on}
use Rattle.rw_rerun.proofs.spare.go_on.Goals as goal

pub replay_kept-requires-clause-step : goal.replay_kept-requires-clause-step
replay_kept-requires-clause-step c =
    let next = c.requires.next_one in
    let near : c.args.spare.now.behind < length c.args.kept.now = let last = c.requires.near in omega (arith, next, last) in
    let there : slice_get c.args.kept.now c.args.spare.now.behind ≡ Some c.index-kept-from.result =
    entry_there c.args.kept.now c.args.spare.now.behind c.from.result (length c.args.kept.now) c.index-kept-from.result c.from.ensures near refl
    c.index-kept-from.is in
    let was = c.requires.stands in
    let can =
    replays_on c.args.basin.now was.policy was.start was.end c.args.kept.now c.args.spare.now c.in-Some.record was.stands
    (there ∙ ap Some c.in-Some.is) in
    subst (IsStep c.args.basin.now) (next ∙ sym can.step_is) c.requires.exists

pub replay_kept-requires-clause-can : goal.replay_kept-requires-clause-can
replay_kept-requires-clause-can c =
    let next = c.requires.next_one in
    let near : c.args.spare.now.behind < length c.args.kept.now = let last = c.requires.near in omega (arith, next, last) in
    let there : slice_get c.args.kept.now c.args.spare.now.behind ≡ Some c.index-kept-from.result =
    entry_there c.args.kept.now c.args.spare.now.behind c.from.result (length c.args.kept.now) c.index-kept-from.result c.from.ensures near refl
    c.index-kept-from.is in
    let was = c.requires.stands in
    (replays_on c.args.basin.now was.policy was.start was.end c.args.kept.now c.args.spare.now c.in-Some.record was.stands
    (there ∙ ap Some c.in-Some.is)).can

pub returns-in_default : goal.returns-in_default
returns-in_default c =
    let next = c.requires.next_one in
    let near : c.args.spare.now.behind < length c.args.kept.now = let last = c.requires.near in omega (arith, next, last) in
    let there : slice_get c.args.kept.now c.args.spare.now.behind ≡ Some c.index-kept-from.result =
    entry_there c.args.kept.now c.args.spare.now.behind c.from.result (length c.args.kept.now) c.index-kept-from.result c.from.ensures near refl
    c.index-kept-from.is in
    absurd (false≢true (subst IsSome c.in_default.is
    (c.requires.known c.args.spare.now.behind c.index-kept-from.result (omega arith) (omega (arith, next)) there)))

pub returns : goal.returns
returns c =
    let basin = c.args.basin.now in
    let next = c.requires.next_one in
    let near : c.args.spare.now.behind < length c.args.kept.now = let last = c.requires.near in omega (arith, next, last) in
    let there : slice_get c.args.kept.now c.args.spare.now.behind ≡ Some c.index-kept-from.result =
    entry_there c.args.kept.now c.args.spare.now.behind c.from.result (length c.args.kept.now) c.index-kept-from.result c.from.ensures near refl
    c.index-kept-from.is in
    let exists : c.args.spare.now.behind + 1 ≤ basin.control.stamps.count = let last = c.requires.exists.last in omega (arith, next, last) in
    goes_on basin c.args.kept.now c.args.step c.args.spare.now _ c.in-Some.record _
    (λ policy fits. (c.code_keeps_promises.ensures basin policy.blocks policy.budgets
    (c.answered_code_is_safe.ensures.accepted basin policy.blocks policy fits)).framed)
    exists next refl (there ∙ ap Some c.in-Some.is) c.in_ok-replay_kept.ensures
