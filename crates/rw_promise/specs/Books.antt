-- Books of water that close, as a text tells them.
use Rattle.std.specs.Prelude.{◌≡◌, ℕ, List, ◌++◌}
use Rattle.rw_model.specs.Draft.{Draft}
use Rattle.rw_run.specs.Log.{Cells}
use Rattle.rw_run.specs.declared.run.RunEnd.{RunEnd}
use Rattle.rw_report.specs.Section.{heading}
use Rattle.rw_books.specs.Text.{book_lines}
use Rattle.rw_book_laws.specs.Closing.{BooksClose}

-- it tells how a run ended, and the books of these cells over these timesteps, which close
abbrev pub TellsClosedBooks : Draft → RunEnd → List ℕ → Type 0
TellsClosedBooks basin end text =
    (cells : Cells) × (closed : ℕ) × (text ≡ heading basin 0 end ++ book_lines basin cells closed) × BooksClose basin cells closed
