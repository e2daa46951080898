use Rattle.std.proofs.Common.{string_bytes}
use Rattle.rw_model.specs.Objects.{object_at}
use Rattle.rw_series.specs.Series.{held}
use Rattle.rw_report.proofs.Growing.{next}
use Rattle.rw_books.specs.Text.{book_line}
use Rattle.rw_books.proofs.lines.push_lines.Goals as goal

pub loop-before-preserved : goal.loop-before-preserved
loop-before-preserved c =
    next (λ object. book_line c.args.basin.now (held c.args.series.now) c.args.closed object
    (object_at c.args.basin.now.objects object)) c.loop-before.before
    (string_bytes c.args.text.now) (string_bytes c.loop-before.text)
    (string_bytes c.push_line.new.text) c.loop-before.invariant c.in_ok-push_line.ensures
