use Rattle.std.proofs.Common.{◌≡◌, ◌++◌, string_bytes}
use Rattle.rw_model.specs.Objects.{object_at}
use Rattle.rw_series.specs.Series.{held}
use Rattle.rw_report.specs.Section.{for_each}
use Rattle.rw_books.specs.Text.{book_line}
use Rattle.rw_books.proofs.lines.push_lines.Given as goal

-- what is there and the lines so far
abbrev pub invariant-loop-before : goal.invariant-loop-before
invariant-loop-before l =
    string_bytes l.text ≡ string_bytes l.fn.text
    ++ for_each (λ object. book_line l.basin (held l.series) l.closed object (object_at l.basin.objects object)) l.before
