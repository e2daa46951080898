use Rattle.rw_commands.proofs.Common.{ap, subst, sym}
use Rattle.rw_report.specs.Sheet.{AreToldBefore, Sheet}
use Rattle.rw_series.specs.Series.{held}
use Rattle.rw_commands.proofs.SameValues.{none_told}
use Rattle.rw_commands.proofs.reused.write_on_sheet.Goals as goal

pub returns : goal.returns
returns g c = c.write_from.ensures

pub write_from-requires-clause-can : goal.write_from-requires-clause-can
write_from-requires-clause-can g c =
    let basin = c.args.session.now.setup.basin.now in
    let cells = held c.args.session.now.state.engine.series in
    let same = c.args.session.now.state.same in record {
      made = c.requires.made;
      reuse = c.requires.reuse;
      traced = c.requires.traced;
      own = ap (λ (sheet : Sheet). sheet.basin) c.new-sheet.ensures;
      same = subst (λ (sheet : Sheet). AreToldBefore basin cells same sheet.values) (sym c.new-sheet.ensures) (none_told basin cells same);
    }
