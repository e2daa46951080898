-- A section that is handed over to a sink in pieces.
use Rattle.std.specs.Prelude.{◌≡◌, ◌≤◌, ℕ, List, [], ◌++◌, length, Result, Ok, Err, string_bytes}
use Rattle.rw_model.specs.Draft.{Draft}
use Rattle.rw_io.specs.Known.{GrowsBy}
use Rattle.rw_io.specs.Outside.{SinkView}
use Rattle.rw_io.specs.Handed.{BrokeOff}
use Rattle.rw_report.specs.Pieces.{AreTexts}
use Rattle.rw_report.specs.Section.{columns, row_front}
use Rattle.rw_report.specs.declared.handed.Prepared.{Prepared}
use Rattle.rw_report.specs.declared.handed.Unwritten.{Unwritten}
use Rattle.rw_report.specs.declared.handed.Unwritten.TheVariants.{NoMemory, CannotWrite}

-- a sink has grown by a text
pub record Grew (before now : SinkView) (text : List ℕ) : Type 0 where
  pub by_all : GrowsBy before.contents now.contents text
  pub later : before.faults ≤ now.faults

-- what came of a text that was to be written: all of it, a front of it, or nothing
abbrev pub WritesText : {A : Type 0} → (before now : SinkView) → (text : List ℕ) → Result A Unwritten → Type 0
WritesText before now text (Ok _) = Grew before now text
WritesText before now text (Err CannotWrite) = BrokeOff before now text
WritesText before now text (Err NoMemory) = now ≡ before

-- within the crate: what of a section wants memory is made
pub record IsPrepared (basin : Draft) (closed : ℕ) (top tail : List ℕ) (prepared : Prepared) : Type 0 where
  pub head_is : string_bytes prepared.head ≡ top ++ columns basin
  pub count : length prepared.fronts.items ≡ closed
  pub fronts_are : AreTexts (row_front basin) prepared.fronts.items
  pub tail_is : string_bytes prepared.tail ≡ tail
  pub none : prepared.gathered ≡ []
