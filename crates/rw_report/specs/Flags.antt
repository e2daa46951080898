-- Flags: who wrote a content, and its priority.
use Rattle.std.specs.Prelude.{ℕ, List, [], ◌++◌, Option, None, Some, codes}
use Rattle.std.specs.Fmt.{decimal, signed_decimal}
use Rattle.rw_model.specs.declared.content.Content.{Content}
use Rattle.rw_model.specs.declared.writer.Writer.{Writer}
use Rattle.rw_model.specs.declared.writer.Writer.TheVariants.{Input, Rule, Object}
use Rattle.rw_model.specs.Draft.{Draft}
use Rattle.rw_run.specs.Dispatch.{cell_at}
use Rattle.rw_run.specs.Log.{Cells}
use Rattle.rw_report.specs.Section.{for_each, for_slots, slot_words}

-- who wrote it, as a letter
abbrev pub letter_of : Writer → List ℕ
letter_of Input = codes "I"
letter_of (Rule rule) = codes "R"
letter_of (Object object) = codes "O"

abbrev pub flag_words : Content → List ℕ
flag_words content = letter_of content.writer ++ decimal content.number

-- its value and its flag
abbrev pub content_words : Content → List ℕ
content_words content = signed_decimal content.value ++ (codes " " ++ flag_words content)

-- ---- the table of flags

-- that of an unknown value is nothing
abbrev pub held_flag : Option Content → List ℕ
held_flag None = []
held_flag (Some content) = flag_words content

-- the line of names
abbrev pub flag_columns : Draft → List ℕ
flag_columns basin = codes "step" ++ (for_slots basin (λ slot. codes "," ++ slot_words basin slot) ++ codes "\n")

-- the line of a timestep
abbrev pub flag_row : Draft → Cells → ℕ → List ℕ
flag_row basin cells step =
    decimal step ++ (for_slots basin (λ slot. codes "," ++ held_flag (cells (cell_at slot step))) ++ codes "\n")

-- the flags of the first timesteps, so many of them
abbrev pub flag_table : Draft → Cells → ℕ → List ℕ
flag_table basin cells closed = codes "# flags\n" ++ (flag_columns basin ++ for_each (flag_row basin cells) closed)
