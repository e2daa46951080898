-- The book of water of an object that holds water: what flowed in and out in all timesteps that were closed, and what it holds at
-- the end.
use Rattle.std.specs.Prelude.{ℕ, zero, suc, ℤ, pos, ◌+ℤ◌, Option, None, Some}
use Rattle.rw_model.specs.declared.kind.Kind.{Kind}
use Rattle.rw_model.specs.Draft.{Draft}
use Rattle.rw_run.specs.Log.{Cells}
use Rattle.rw_books.specs.declared.book.Book.{Book}
use Rattle.rw_books.specs.declared.turnover.Turnover.{Turnover}
use Rattle.rw_books.specs.Turnover.{turnover_of, values_at}

-- what is held before the first timestep
abbrev pub opening_book : (initial : ℤ) → Book
opening_book initial = record { inflow = pos 0; outflow = pos 0; held = initial }

abbrev pub with_turnover : Book → Turnover → Book
with_turnover book turn = record { inflow = book.inflow +ℤ turn.inflow; outflow = book.outflow +ℤ turn.outflow; held = turn.held }

-- where both are known
abbrev pub book_behind : Option Book → Option Turnover → Option Book
book_behind None turn = None
book_behind (Some book) None = None
book_behind (Some book) (Some turn) = Some (with_turnover book turn)

-- over the first timesteps, so many of them: there is none where one of them is unknown
abbrev pub book_over : (initial : ℤ) → (ℕ → Option Turnover) → ℕ → Option Book
book_over initial turns zero = Some (opening_book initial)
book_over initial turns (suc before) = book_behind (book_over initial turns before) (turns (suc before))

-- the book of the object of this number, which is of this kind and held this before the run
abbrev pub book_of : Draft → Cells → (closed object : ℕ) → Kind → (initial : ℤ) → Option Book
book_of basin cells closed object kind initial = book_over initial (λ step. turnover_of kind (values_at basin cells object step)) closed
