use Rattle.std.proofs.Common.{ap, arith, subst, sym, ◌+◌, ◌-◌, ◌≡◌, ◌∙◌, []}
use Rattle.rw_series.specs.Series.{held}
use Rattle.rw_report.specs.Kept.{TellFirst}
use Rattle.rw_report.specs.Section.{for_each, row, values_in}
use Rattle.rw_report.proofs.Growing.{next}
use Rattle.rw_report.proofs.Keeping.{texts_are_rows}
use Rattle.rw_report.proofs.kept.push_kept.Goals as goal

pub loop-before-init : goal.loop-before-init
loop-before-init c =
    let lines = c.requires.lines in
    let there = lines.there in
    let many = c.args.lines.now.ok.0 in (
      c.requires.text
          ∙ texts_are_rows c.args.basin.now (held c.args.series.now) c.args.extent.first c.args.lines.now.items lines.told there lines.same,
      (lines.told, (omega (arith, many, there), (c.requires.first, lines.same))),
    )

pub loop-before-preserved : goal.loop-before-preserved
loop-before-preserved c =
    let there = c.in_ok-make_room.ensures.room in
    let kept = c.in_ok-push_line.ensures.room in
    let cells = held c.args.series.now in
    let near = c.loop-before-test.true in
    let before : (c.loop-before.before + 1) - 1 ≡ c.loop-before.before = omega arith in (
      next (row c.args.basin.now (values_in (held c.args.series.now))) c.loop-before.before
          [] c.loop-before.text.items c.push_line.new.text.items c.loop-before.invariant.0
          c.in_ok-push_line.ensures.row,
      (
        c.in_ok-push_line.ensures.told,
        (
          omega (arith, there, kept),
          (
            omega (arith, near),
            c.in_ok-push_line.ensures.tells
                (subst (λ n. TellFirst c.args.basin.now cells n c.make_room.new.lines.items) (sym before)
                (c.in_ok-make_room.ensures.tells cells c.loop-before.invariant.1.1.1.1)),
          ),
        ),
      ),
    )

pub returns-clause-rows : goal.returns-clause-rows
returns-clause-rows c =
    let done = c.loop-before-test.false in
    let few = c.loop-before.invariant.1.1.1.0 in
    let same : c.loop-before.before ≡ c.args.extent.kept = omega (arith, done, few) in
    c.loop-before.invariant.0 ∙ ap (for_each (row c.args.basin.now (values_in (held c.args.series.now)))) same

pub returns-clause-lines : goal.returns-clause-lines
returns-clause-lines c =
    let done = c.loop-before-test.false in
    let room = c.loop-before.invariant.1.1.0 in
    let few = c.loop-before.invariant.1.1.1.0 in
    let many = c.loop-before.lines.ok.0 in
    let same : c.loop-before.before ≡ c.args.extent.kept = omega (arith, done, few) in record {
      told = c.loop-before.invariant.1.0;
      there = omega (arith, done, room, many);
      same =
          subst (λ n. TellFirst c.args.basin.now (held c.args.series.now) n c.loop-before.lines.items) same c.loop-before.invariant.1.1.1.1;
    }
