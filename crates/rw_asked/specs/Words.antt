-- The lines of a trace that tells each put, as text.
use Rattle.std.specs.Prelude.{ℕ, List, [], ◌∷◌, ◌++◌, codes}
use Rattle.std.specs.Fmt.{decimal}
use Rattle.rw_base.specs.declared.number.Cell.{Cell}
use Rattle.rw_model.specs.declared.content.Content.{Content}
use Rattle.rw_model.specs.Draft.{Draft}
use Rattle.rw_report.specs.Flags.{content_words}
use Rattle.rw_report.specs.Lines.{line_words}
use Rattle.rw_report.specs.Section.{slot_words}
use Rattle.rw_asked.specs.declared.fate.Fate.{Fate}
use Rattle.rw_asked.specs.declared.fate.Fate.TheVariants.{Written, Over, Kept, Denied, Again, Late}
use Rattle.rw_asked.specs.Asked.{AskedLine, plain_line, left_line, over_line}

abbrev pub fate_words : Fate → List ℕ
fate_words Written = codes "written"
fate_words (Over held) = codes "written"
fate_words (Kept held) = codes "kept"
fate_words (Denied held) = codes "denied"
fate_words Again = codes "again"
fate_words Late = codes "late"

-- what was held in its place
abbrev pub held_words : Fate → List ℕ
held_words (Kept held) = codes " held " ++ content_words held
held_words (Denied held) = codes " held " ++ content_words held
held_words became = []

-- the slot and the timestep of a cell, each behind a space
abbrev pub cell_place : Draft → Cell → List ℕ
cell_place basin cell = codes " " ++ (slot_words basin cell.slot.0 ++ (codes " " ++ decimal cell.step.0))

-- a word, a cell and a content. The word comes first, so that no such line begins as that of a written put does
abbrev pub word_line : Draft → (word : List ℕ) → Cell → Content → List ℕ
word_line basin word cell content = codes "  " ++ (word ++ (cell_place basin cell ++ (codes " " ++ content_words content)))

abbrev pub asked_line_words : Draft → AskedLine → List ℕ
asked_line_words basin (plain_line line) = line_words basin line
asked_line_words basin (left_line put fate) =
    word_line basin (fate_words fate) put.cell put.content ++ held_words fate
asked_line_words basin (over_line cell held) = word_line basin (codes "over") cell held

abbrev pub asked_lines_words : Draft → List AskedLine → List ℕ
asked_lines_words basin [] = []
asked_lines_words basin (line ∷ rest) = (asked_line_words basin line ++ codes "\n") ++ asked_lines_words basin rest

abbrev pub asked_trace_words : Draft → List AskedLine → List ℕ
asked_trace_words basin told = codes "# trace\n" ++ asked_lines_words basin told
