-- Within the crate: the values at one timestep, which are written in pieces, and texts that are kept for lines.
use Rattle.std.specs.Prelude.{◌≡◌, ◌+◌, ℕ, Bool, if◌then◌else◌, List, ◌++◌, Some, String, codes, slice_get, string_bytes}
use Rattle.std.specs.declared.alloc.Global.{Global}
use Rattle.rw_base.specs.declared.number.ObjectNo.{ObjectNo}
use Rattle.rw_model.specs.Draft.{Draft}
use Rattle.rw_run.specs.declared.trace.TraceEvent.{TraceEvent}
use Rattle.rw_run.specs.declared.trace.TraceEvent.TheVariants.{Idle, Solve}
use Rattle.rw_run.specs.Dispatch.{cell_at}
use Rattle.rw_run.specs.Log.{Cells}
use Rattle.rw_report.specs.declared.told.LineTexts.{LineTexts}
use Rattle.rw_report.specs.Flags.{held_flag}
use Rattle.rw_report.specs.Section.{object_words, slot_words, value_words, values_in}

-- a comma and the value that a slot has in the first of these timesteps
abbrev pub words_at : Cells → ℕ → List ℕ
words_at cells slot = codes "," ++ value_words (values_in cells slot 1)

-- a comma and its flag
abbrev pub flag_at : Cells → ℕ → List ℕ
flag_at cells slot = codes "," ++ held_flag (cells (cell_at slot 1))

-- ---- texts that are kept

-- the texts are what is written of the numbers 1, 2, ..
abbrev pub AreTexts : (ℕ → List ℕ) → List (String Global) → Type 0
AreTexts words texts = (place : ℕ) (text : String Global) → slice_get texts place ≡ Some text → string_bytes text ≡ words (place + 1)

-- a line that ends in the name of an object
abbrev pub object_line : Draft → (word : List ℕ) → ℕ → List ℕ
object_line basin word object = (word ++ object_words basin object) ++ codes "\n"

-- the line of a dispatch, of one that put something or of another
abbrev pub dispatch_line : ObjectNo → (put : Bool) → TraceEvent
dispatch_line object put = if put then Solve object else Idle object

-- a slot behind some text, and a space behind it
abbrev pub slot_behind : Draft → (front : List ℕ) → ℕ → List ℕ
slot_behind basin front slot = front ++ (slot_words basin slot ++ codes " ")

-- how the line of a put to a slot begins
abbrev pub slot_front : Draft → ℕ → List ℕ
slot_front basin slot = slot_behind basin (codes "  ") slot

-- texts that are kept for the lines of a trace
pub record AreLineTexts (basin : Draft) (texts : LineTexts) : Type 0 where
  pub idle : AreTexts (object_line basin (codes "idle ")) texts.idle.items
  pub solve : AreTexts (object_line basin (codes "solve ")) texts.solve.items
  pub written : AreTexts (slot_front basin) texts.written.items
