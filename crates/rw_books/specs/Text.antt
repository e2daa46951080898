-- The text of the books of a run.
use Rattle.std.specs.Prelude.{ℕ, ℤ, List, [], ◌++◌, length, Option, None, Some, codes}
use Rattle.std.specs.Fmt.{signed_decimal}
use Rattle.rw_model.specs.declared.kind.Kind.{Kind}
use Rattle.rw_model.specs.Draft.{Draft}
use Rattle.rw_model.specs.Objects.{Object, object_at}
use Rattle.rw_run.specs.Log.{Cells}
use Rattle.rw_report.specs.Outcome.{RunOutcome}
use Rattle.rw_report.specs.Section.{for_each, heading, object_words}
use Rattle.rw_books.specs.declared.book.Book.{Book}
use Rattle.rw_books.specs.Book.{book_of}
use Rattle.rw_books.specs.Turnover.{initial_of}

-- what is known of an object
abbrev pub known_words : (initial : ℤ) → Book → List ℕ
known_words initial book =
    codes " initial " ++ (signed_decimal initial ++ (codes " in " ++ (signed_decimal book.inflow ++ (codes " out " ++ (signed_decimal book.outflow
    ++ (codes " final " ++ (signed_decimal book.held ++ codes "\n")))))))

-- the line of an object, by its book
abbrev pub book_words : Draft → (object : ℕ) → (initial : ℤ) → Option Book → List ℕ
book_words basin object initial None = object_words basin object ++ codes " unknown\n"
book_words basin object initial (Some book) = object_words basin object ++ known_words initial book

-- nothing, where the object holds no water
abbrev pub book_if : Draft → Cells → (closed object : ℕ) → Kind → (initial : Option ℤ) → List ℕ
book_if basin cells closed object kind None = []
book_if basin cells closed object kind (Some initial) = book_words basin object initial (book_of basin cells closed object kind initial)

abbrev pub book_line : Draft → Cells → (closed object : ℕ) → Option Object → List ℕ
book_line basin cells closed object None = []
book_line basin cells closed object (Some found) = book_if basin cells closed object found.kind (initial_of found.kind)

-- the lines of all objects that hold water, in the order of their numbers
abbrev pub book_lines : Draft → Cells → ℕ → List ℕ
book_lines basin cells closed = for_each (λ object. book_line basin cells closed object (object_at basin.objects object)) (length basin.objects)

-- how the run of the inputs ended, and the books
abbrev pub balance_of_run : Draft → RunOutcome → List ℕ
balance_of_run basin run = heading basin 0 run.end ++ book_lines basin run.cells run.closed
