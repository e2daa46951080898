-- The records of a text, and those of them that a reader has left.
use Rattle.std.specs.Prelude.{ℕ, suc, List, [], length, Option, Some, None, ◌≡◌, false}
use Rattle.std.specs.Borrow.{Bor}
use Rattle.csv.specs.Reading.{default_config, strip_bom, AreRecords, records_from, Ready, has_failed, reader_config, reader_state, reader_trim, source_of}
use Rattle.csv.specs.declared.parser.State.{State}
use Rattle.csv.specs.declared.parser.State.TheVariants as st
use Rattle.csv.specs.declared.reader.Reader.{Reader}
use Rattle.csv.specs.declared.reader.Trim.TheVariants as trim

-- a record of fields
abbrev pub Fields : Type 0
Fields = List (List ℕ)

-- what `csv` states for the records of a text, behind its byte order mark if it has one
abbrev pub AreRows : List ℕ → List Fields → Type 0
AreRows text records = AreRecords default_config st.StartRecord (strip_bom text) records

-- the records that stand in the rest of a text, if that is known
abbrev pub records_in : State → Option (List ℕ) → List Fields
records_in state None = []
records_in state (Some text) = records_from default_config (suc (length text)) state text

-- the records of a text, behind its byte order mark if it has one
abbrev pub records_of : List ℕ → List Fields
records_of text = records_in st.StartRecord (Some (strip_bom text))

-- the records that a reader has left, which are none once it has failed
abbrev pub records_left : Reader (Bor (List ℕ)) → List Fields
records_left reader = records_in (reader_state reader) (source_of (λ text. Some text.now) reader)

-- a reader that takes each record as it stands, the first one too
pub record TakesEach (reader : Reader (Bor (List ℕ))) : Type 0 where
  pub trim : reader_trim reader ≡ trim.None
  pub ready : Ready reader
  pub config : reader_config reader ≡ default_config

-- a reader is plain, unless it has failed
abbrev pub IsPlainOrFailed : Reader (Bor (List ℕ)) → Type 0
IsPlainOrFailed reader = has_failed reader ≡ false → TakesEach reader
