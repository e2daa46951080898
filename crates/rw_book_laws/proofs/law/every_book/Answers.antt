use Rattle.rw_series.specs.Series.{held}
use Rattle.rw_book_laws.proofs.Closing.{books_close}
use Rattle.rw_book_laws.proofs.law.every_book.Goals as goal

pub returns : goal.returns
returns c = λ basin policy inputs log run valid promise runs comes.
    books_close basin (held run.series) run.closed valid
    (λ step first last. ((c.every_run.ensures basin policy inputs log run valid promise runs comes).steps step first last).balance)
