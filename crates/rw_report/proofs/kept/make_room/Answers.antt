use Rattle.std.proofs.Common.{arith, subst, sym}
use Rattle.rw_report.specs.Kept.{TellFirst}
use Rattle.rw_report.proofs.Keeping.{tells_still}
use Rattle.rw_report.proofs.kept.make_room.Goals as goal

pub returns-clause-tells : goal.returns-clause-tells
returns-clause-tells c = λ cells first.
    subst (TellFirst c.args.basin.now cells c.args.before) (sym c.in_ok-push.ensures.items)
    (tells_still c.args.basin.now cells c.args.lines.now.items c.args.before c.blank.result
    (let next = c.requires.next in omega (arith, next)) first)
