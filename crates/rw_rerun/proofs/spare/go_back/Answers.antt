use Rattle.rw_base.proofs.Common.{IsSome, Some, ap, arith, false≢true, length, refl, slice_get, subst, ◌-◌, ◌<◌, ◌∙◌, ◌≡◌}
use Rattle.rw_rerun.proofs.Sessions.{entry_there}
use Rattle.rw_rerun.proofs.Standing.{goes_back}
use Rattle.rw_rerun.proofs.spare.go_back.Goals as goal

pub returns-in-Some : goal.returns-in-Some
returns-in-Some c =
    let few = c.requires.stands.stands.few in
    let some = c.requires.some in
    let near : c.args.spare.now.behind - 1 < length c.args.kept.now = omega (arith, few, some) in
    let there : slice_get c.args.kept.now (c.args.spare.now.behind - 1) ≡ Some c.index-kept-from.result =
    entry_there c.args.kept.now (c.args.spare.now.behind - 1) c.from.result (length c.args.kept.now) c.index-kept-from.result c.from.ensures near refl
    c.index-kept-from.is in
    goes_back c.args.basin.now c.args.kept.now c.args.spare.now _ c.in-Some.record some refl (there ∙ ap Some c.in-Some.is) c.take_back_kept.ensures

pub returns-in_default : goal.returns-in_default
returns-in_default c =
    let few = c.requires.stands.stands.few in
    let some = c.requires.some in
    let near : c.args.spare.now.behind - 1 < length c.args.kept.now = omega (arith, few, some) in
    let there : slice_get c.args.kept.now (c.args.spare.now.behind - 1) ≡ Some c.index-kept-from.result =
    entry_there c.args.kept.now (c.args.spare.now.behind - 1) c.from.result (length c.args.kept.now) c.index-kept-from.result c.from.ensures near refl
    c.index-kept-from.is in
    absurd (false≢true (subst IsSome c.in_default.is
    (c.requires.known (c.args.spare.now.behind - 1) c.index-kept-from.result (omega arith) (omega (arith, some)) there)))
