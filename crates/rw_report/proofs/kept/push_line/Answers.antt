use Rattle.std.proofs.Common.{arith, subst, sym}
use Rattle.std.proofs.lemmas.List.Elements.{All-set}
use Rattle.rw_series.specs.Series.{held}
use Rattle.rw_report.specs.Kept.{IsTold, TellFirst}
use Rattle.rw_report.proofs.Keeping.{tells_more}
use Rattle.rw_report.proofs.kept.push_line.Goals as goal

pub returns-in_err-tell_line-clause-told : goal.returns-in_err-tell_line-clause-told
returns-in_err-tell_line-clause-told c =
    All-set (IsTold c.args.basin.now) c.args.lines.now.items c.from-place.result c.tell_line.new.line c.tell_line.ensures.told c.requires.lines

pub returns-in_err-extend_from_slice-clause-told : goal.returns-in_err-extend_from_slice-clause-told
returns-in_err-extend_from_slice-clause-told c =
    All-set (IsTold c.args.basin.now) c.args.lines.now.items c.from-place.result c.tell_line.new.line c.tell_line.ensures.told c.requires.lines

pub returns-clause-told : goal.returns-clause-told
returns-clause-told c =
    All-set (IsTold c.args.basin.now) c.args.lines.now.items c.from-place.result c.tell_line.new.line c.tell_line.ensures.told c.requires.lines

pub returns-clause-tells : goal.returns-clause-tells
returns-clause-tells c = λ before.
    let first = c.requires.first in
    let at = c.from-place.ensures in
    let room = c.requires.room in
    let lines = c.args.lines.now.items in
    let cells = held c.args.series.now in
    tells_more c.args.basin.now cells lines c.from-place.result c.args.step c.tell_line.new.line (omega (arith, first, at))
    (omega (arith, first, at, room)) c.in_ok-tell_line.ensures.tells (subst (λ n. TellFirst c.args.basin.now cells n lines) (sym at) before)
