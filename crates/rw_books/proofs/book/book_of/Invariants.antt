use Rattle.std.proofs.Common.{◌≡◌, Some}
use Rattle.rw_series.specs.Series.{held}
use Rattle.rw_books.specs.Book.{book_of}
use Rattle.rw_books.proofs.Sums.{IsOver}
use Rattle.rw_books.proofs.book.book_of.Given as goal

-- the book so far, and how large it is
abbrev pub invariant-loop-before : goal.invariant-loop-before
invariant-loop-before l =
    (book_of l.basin (held l.series) l.before l.object.0 l.kind l.fn.initial ≡ Some l.book) × IsOver l.before l.book
