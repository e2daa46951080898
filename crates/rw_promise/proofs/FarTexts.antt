-- What is told of runs doesn't go by how far ahead rules may put: books, a reason, and the texts of many runs.
use Rattle.rw_commands.proofs.Common.{List, None, Option, Some, [], ap, ap₂, refl, length, ℕ, ℤ, ◌++◌, ◌+◌, ◌∙◌, ◌∷◌, ◌≡◌}
use Rattle.std.specs.Prelude.{Bool, codes, if◌then◌else◌, map}
use Rattle.std.specs.Fmt.{decimal}
use Rattle.rw_base.specs.declared.number.Cell.{Cell}
use Rattle.rw_model.proofs.Common.{Draft, all_slots}
use Rattle.rw_model.specs.Objects.{Object, object_at}
use Rattle.rw_model.specs.declared.content.Content.{Content}
use Rattle.rw_model.specs.declared.kind.Kind.{Kind}
use Rattle.rw_model.specs.declared.writer.Writer.{Writer}
use Rattle.rw_model.specs.declared.writer.Writer.TheVariants.{Input, Object as ByObject, Rule}
use Rattle.rw_series.specs.Series.{is_shared}
use Rattle.rw_inputs.specs.Inputs.{Inputs}
use Rattle.rw_run.proofs.Common.{Log, end_of}
use Rattle.rw_run.specs.Log.{Cells}
use Rattle.rw_run.specs.RunOf.{last_closed, trace_of}
use Rattle.rw_run.specs.declared.trace.TraceEvent.{TraceEvent}
use Rattle.rw_run.specs.declared.trace.TraceEvent.TheVariants.{Closed, Fire, Idle, Opened, Solve, Written}
use Rattle.rw_run.specs.declared.trace.TraceEvent.TheVariants as Trace
use Rattle.rw_report.specs.Flags.{content_words}
use Rattle.rw_report.specs.Outcome.{RunOutcome, outcome_by}
use Rattle.rw_report.specs.Section.{for_each, rows, values_in}
use Rattle.rw_report.specs.Whole.{trace_of_run}
use Rattle.rw_report.specs.Why.{given_to, holds_words, open_after, put_told, put_words, puts_told, source_words, why_of, writer_words}
use Rattle.rw_books.specs.declared.book.Book.{Book}
use Rattle.rw_books.specs.Book.{book_of}
use Rattle.rw_books.specs.Text.{balance_of_run, book_if, book_line, book_lines, book_words}
use Rattle.rw_books.specs.Turnover.{initial_of}
use Rattle.rw_mrm.specs.Summary.{Ended, settled_in, statistics, summary_columns, summary_heading, summary_of, values_among}
use Rattle.rw_mrm.specs.Tally.{is_settled}
use Rattle.rw_ahead.proofs.SameRuns.{cells_same}
use Rattle.rw_ahead.specs.Ahead.{ahead_to}
use Rattle.rw_migrated.proofs.FarTables.{end_same, heading_same, names_same, slot_same}
use Rattle.rw_commands.specs.Many.{as_ended, many_texts, scenario_texts}

abbrev ended_with : Bool → Cells → Ended
ended_with settled cells = record { settled = settled; cells = cells }

module _ (basin : Draft) (most : ℕ) where
  abbrev far : Draft
  far = ahead_to most basin

  -- what is told of a run goes by its cells
  by_cells : (log : Log) (text : RunOutcome → List ℕ) → text (outcome_by far log) ≡ text (outcome_by basin log)
  by_cells log text =
      ap (λ (cells : Cells). text (record { end = end_of log; closed = last_closed log; cells = cells; lines = trace_of log }))
      (cells_same basin most log)

  -- ---- books

  book_same : (object : ℕ) (initial : ℤ) (book : Option Book) → book_words far object initial book ≡ book_words basin object initial book
  book_same object initial None = refl
  book_same object initial (Some book) = refl

  if_same : (cells : Cells) (closed object : ℕ) (kind : Kind) (initial : Option ℤ)
      → book_if far cells closed object kind initial ≡ book_if basin cells closed object kind initial
  if_same cells closed object kind None = refl
  if_same cells closed object kind (Some initial) = book_same object initial (book_of basin cells closed object kind initial)

  line_of_book : (cells : Cells) (closed object : ℕ) (found : Option Object)
      → book_line far cells closed object found ≡ book_line basin cells closed object found
  line_of_book cells closed object None = refl
  line_of_book cells closed object (Some found) = if_same cells closed object found.kind (initial_of found.kind)

  books_same : (cells : Cells) (closed : ℕ) → book_lines far cells closed ≡ book_lines basin cells closed
  books_same cells closed =
      ap (λ (words : ℕ → List ℕ). for_each words (length basin.objects))
      (λ i object. (line_of_book cells closed object (object_at basin.objects object)) i)

  run_books : (run : RunOutcome) → balance_of_run far run ≡ balance_of_run basin run
  run_books run = ap₂ (λ (top books : List ℕ). top ++ books) (heading_same basin most 0 run.end) (books_same run.cells run.closed)

  pub balance_same : (log : Log) → balance_of_run far (outcome_by far log) ≡ balance_of_run basin (outcome_by basin log)
  balance_same log = by_cells log (balance_of_run far) ∙ run_books (outcome_by basin log)

  -- ---- a reason

  writer_same : (writer : Writer) → writer_words far writer ≡ writer_words basin writer
  writer_same Input = refl
  writer_same (Rule rule) = refl
  writer_same (ByObject object) = refl

  put_same : (step : ℕ) (content : Content) → put_words far step content ≡ put_words basin step content
  put_same step content =
      ap (λ (words : List ℕ). (codes "step " ++ (decimal step ++ (codes " " ++ words))) ++ (codes " " ++ (content_words content ++ codes "\n")))
      (writer_same content.writer)

  told_same : (cell : Cell) (step : ℕ) (line : TraceEvent) → put_told far cell step line ≡ put_told basin cell step line
  told_same cell step (Written slot at content) =
      ap (λ (words : List ℕ). if is_shared basin cell (record { slot = slot; step = at }) then words else []) (put_same step content)
  told_same cell step (Opened opened) = refl
  told_same cell step (Idle object) = refl
  told_same cell step (Solve object) = refl
  told_same cell step (Fire rule done count) = refl
  told_same cell step (Closed closed) = refl
  told_same cell step (Trace.Fault fault) = refl

  all_told : (cell : Cell) (step : ℕ) (lines : List TraceEvent) → puts_told far cell step lines ≡ puts_told basin cell step lines
  all_told cell step [] = refl
  all_told cell step (line ∷ lines) =
      ap₂ (λ (words rest : List ℕ). words ++ rest) (told_same cell step line) (all_told cell (open_after step line) lines)

  source_same : (cell : Cell) (lines : List TraceEvent) (given : Option ℤ) → source_words far cell lines given ≡ source_words basin cell lines given
  source_same cell lines None = all_told cell 0 lines
  source_same cell lines (Some value) = refl

  run_why : (inputs : Inputs) (cell : Cell) (run : RunOutcome) → why_of far inputs run cell ≡ why_of basin inputs run cell
  run_why inputs cell run =
      ap (λ (words : List ℕ). words ++ holds_words (run.cells cell)) (source_same cell run.lines (given_to basin inputs cell))

  pub why_same : (inputs : Inputs) (cell : Cell) (log : Log)
      → why_of far inputs (outcome_by far log) cell ≡ why_of basin inputs (outcome_by basin log) cell
  why_same inputs cell log = by_cells log (λ run. why_of far inputs run cell) ∙ run_why inputs cell (outcome_by basin log)

  -- ---- many runs

  run_of_trace : (number : ℕ) (run : RunOutcome) → trace_of_run far number run ≡ trace_of_run basin number run
  run_of_trace number run =
      ap₂ (λ (end names : List ℕ). (codes "# trace " ++ (decimal number ++ (codes " " ++ (end ++ codes "\n"))))
      ++ ((codes "step,stamp" ++ (names ++ codes "\n")) ++ rows basin (values_in run.cells) run.closed))
      (end_same basin most run.end) (names_same basin most)

  traces_same : (number : ℕ) (logs : List Log) → scenario_texts far number logs ≡ scenario_texts basin number logs
  traces_same number [] = refl
  traces_same number (log ∷ logs) =
      ap₂ (λ (text : List ℕ) (texts : List (List ℕ)). text ∷ texts)
      (by_cells log (trace_of_run far number) ∙ run_of_trace number (outcome_by basin log)) (traces_same (number + 1) logs)

  summary_same : (runs : List Ended) → summary_of far runs ≡ summary_of basin runs
  summary_same runs =
      ap (λ (names : ℕ → List ℕ). summary_heading (length (settled_in runs)) (length runs) ++ (summary_columns
      ++ for_each (λ slot. for_each (λ step. names slot ++ ((codes "," ++ decimal step)
      ++ (codes "," ++ statistics (values_among (settled_in runs) slot step)))) basin.control.stamps.count) (length (all_slots basin.objects))))
      (λ i slot. (slot_same basin most slot) i)

  ended_same : (logs : List Log) → map (as_ended far) logs ≡ map (as_ended basin) logs
  ended_same [] = refl
  ended_same (log ∷ logs) =
      ap₂ (λ (cells : Cells) (rest : List Ended). ended_with (is_settled (end_of log)) cells ∷ rest)
      (cells_same basin most log) (ended_same logs)

  pub many_same : (logs : List Log) → many_texts far logs ≡ many_texts basin logs
  many_same logs =
      ap₂ (λ (texts : List (List ℕ)) (summary : List ℕ). texts ++ summary ∷ []) (traces_same 1 logs)
      (ap (summary_of far) (ended_same logs) ∙ summary_same (map (as_ended basin) logs))
