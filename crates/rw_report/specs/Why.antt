-- Why a cell holds what it holds: what was given to it, or each put that was written to it, and what it holds at the end.
use Rattle.std.specs.Prelude.{ℕ, ℤ, if◌then◌else◌, List, [], ◌∷◌, ◌++◌, Option, None, Some, codes}
use Rattle.std.specs.Fmt.{decimal, signed_decimal}
use Rattle.rw_base.specs.declared.number.Cell.{Cell}
use Rattle.rw_model.specs.declared.content.Content.{Content}
use Rattle.rw_model.specs.declared.writer.Writer.{Writer}
use Rattle.rw_model.specs.declared.writer.Writer.TheVariants.{Input, Rule, Object}
use Rattle.rw_model.specs.Draft.{Draft}
use Rattle.rw_series.specs.Series.{is_shared}
use Rattle.rw_inputs.specs.Inputs.{Inputs, kept_slot, value_at}
use Rattle.rw_run.specs.declared.trace.TraceEvent.{TraceEvent}
use Rattle.rw_run.specs.declared.trace.TraceEvent.TheVariants.{Opened, Written}
use Rattle.rw_report.specs.Section.{object_words}
use Rattle.rw_report.specs.Flags.{content_words}
use Rattle.rw_report.specs.Outcome.{RunOutcome}

-- ---- what was put

abbrev pub writer_words : Draft → Writer → List ℕ
writer_words basin Input = codes "input"
writer_words basin (Rule rule) = codes "rule " ++ decimal rule.0
writer_words basin (Object object) = codes "object " ++ object_words basin object.0

-- the line of a put that was written in this timestep
abbrev pub put_words : Draft → (step : ℕ) → Content → List ℕ
put_words basin step content =
    (codes "step " ++ (decimal step ++ (codes " " ++ writer_words basin content.writer)))
    ++ (codes " " ++ (content_words content ++ codes "\n"))

-- a line of the trace tells a put to the cell, or to a cell that shares its value with it
abbrev pub put_told : Draft → Cell → (step : ℕ) → TraceEvent → List ℕ
put_told basin cell step (Written slot at content) =
    if is_shared basin cell (record { slot = slot; step = at }) then put_words basin step content else []
put_told basin cell step line = []

-- the timestep that is open behind a line of the trace
abbrev pub open_after : (step : ℕ) → TraceEvent → ℕ
open_after step (Opened opened) = opened.0
open_after step line = step

-- all puts to the cell that the lines of the trace tell, where this timestep is open before them
abbrev pub puts_told : Draft → Cell → (step : ℕ) → List TraceEvent → List ℕ
puts_told basin cell step [] = []
puts_told basin cell step (line ∷ lines) =
    put_told basin cell step line ++ puts_told basin cell (open_after step line) lines

-- ---- all of it

-- what the inputs give to the cell
abbrev pub given_to : Draft → Inputs → Cell → Option ℤ
given_to basin inputs cell = value_at inputs (kept_slot basin cell.slot.0) cell.step.0

-- how it came to its value: it was given, or was put
abbrev pub source_words : Draft → Cell → List TraceEvent → Option ℤ → List ℕ
source_words basin cell lines None = puts_told basin cell 0 lines
source_words basin cell lines (Some value) = codes "given " ++ (signed_decimal value ++ codes "\n")

abbrev pub holds_words : Option Content → List ℕ
holds_words None = codes "holds unknown\n"
holds_words (Some content) = codes "holds " ++ (content_words content ++ codes "\n")

abbrev pub why_of : Draft → Inputs → RunOutcome → Cell → List ℕ
why_of basin inputs run cell =
    source_words basin cell run.lines (given_to basin inputs cell) ++ holds_words (run.cells cell)
