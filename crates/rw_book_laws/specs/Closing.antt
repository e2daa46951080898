-- That books close: what was held, and what flowed in less what flowed out, is what is held.
use Rattle.std.specs.Prelude.{◌≡◌, ℕ, ℤ, ◌+ℤ◌, ◌-ℤ◌, Some, option_map}
use Rattle.rw_model.specs.declared.kind.Kind.{Kind}
use Rattle.rw_model.specs.Draft.{Draft}
use Rattle.rw_model.specs.Objects.{object_at}
use Rattle.rw_run.specs.Log.{Cells}
use Rattle.rw_books.specs.declared.book.Book.{Book}
use Rattle.rw_books.specs.Book.{book_of}
use Rattle.rw_books.specs.Turnover.{initial_of}

-- the book of each object that holds water, where it is known
abbrev pub BooksClose : Draft → Cells → ℕ → Type 0
BooksClose basin cells closed =
    (object : ℕ) (kind : Kind) (initial : ℤ) (book : Book) → option_map (λ found. found.kind) (object_at basin.objects object) ≡ Some kind
    → initial_of kind ≡ Some initial → book_of basin cells closed object kind initial ≡ Some book
    → initial +ℤ book.inflow -ℤ book.outflow ≡ book.held
