use Rattle.rw_base.proofs.Common.{Some, arith, ap, ap₂, sym, to_z-of_z, ◌∙◌, ◌≡◌, ◌+◌}
use Rattle.rw_series.specs.Series.{held}
use Rattle.rw_books.specs.Book.{book_behind, book_over}
use Rattle.rw_books.proofs.Sums.{begins, next_book, one_more, small_enough, stays_unknown, turns_of}
use Rattle.rw_books.proofs.book.book_of.Goals as goal

pub loop-before-init : goal.loop-before-init
loop-before-init c = (ap Some (sym c.opening_book-book.ensures), rw c.opening_book-book.ensures (begins _))

pub with_turnover-book-requires-clause-inflow : goal.with_turnover-book-requires-clause-inflow
with_turnover-book-requires-clause-inflow c =
    small_enough c.loop-before.before c.loop-before.book.inflow
    (omega (arith, c.loop-before-test.true, c.ranges.closed.fits)) c.loop-before.invariant.1.inflow

pub with_turnover-book-requires-clause-outflow : goal.with_turnover-book-requires-clause-outflow
with_turnover-book-requires-clause-outflow c =
    small_enough c.loop-before.before c.loop-before.book.outflow
    (omega (arith, c.loop-before-test.true, c.ranges.closed.fits)) c.loop-before.invariant.1.outflow

pub returns-in-None : goal.returns-in-None
returns-in-None c =
    let same = to_z-of_z _ c.args.initial c.ranges.initial in
    let turns = turns_of c.args.basin.now (held c.args.series.now) c.args.object.0 c.args.kind.now in
    let so_far = rw same at c.loop-before.invariant.0 in
    sym (stays_unknown c.args.initial turns (c.loop-before.before + 1) c.args.closed (omega (arith, c.loop-before-test.true))
    (next_book c.args.initial turns c.loop-before.before ∙ ap₂ book_behind so_far (sym c.turnover_of.ensures.is ∙ c.in-None.is)))

pub loop-before-preserved : goal.loop-before-preserved
loop-before-preserved c =
    let same = to_z-of_z _ c.args.initial c.ranges.initial in
    let turns = turns_of c.args.basin.now (held c.args.series.now) c.args.object.0 c.args.kind.now in
    let so_far = rw same at c.loop-before.invariant.0 in (
      rw same (next_book c.args.initial turns c.loop-before.before ∙ ap₂ book_behind so_far (sym c.turnover_of.ensures.is ∙ c.in-Some.is)
          ∙ ap Some (sym c.with_turnover-book.ensures)),
      rw c.with_turnover-book.ensures
          (one_more c.loop-before.before c.loop-before.book c.in-Some.turn c.loop-before.invariant.1 c.in-Some.ensures.small),
    )

pub returns : goal.returns
returns c =
    let same = to_z-of_z _ c.args.initial c.ranges.initial in
    let turns = turns_of c.args.basin.now (held c.args.series.now) c.args.object.0 c.args.kind.now in
    let all : c.loop-before.before ≡ c.args.closed = omega (arith, c.loop-before-test.false, c.loop-before.auto.before-end) in
    sym (rw same at c.loop-before.invariant.0) ∙ ap (book_over c.args.initial turns) all
