-- Books that were worked out by hand: of a routed reach and of dams, each alone in a basin.
use Rattle.std.specs.Prelude.{ℕ, ◌-◌, ℤ, pos, List, [], ◌∷◌, Option, None, Some, Bool, false, slice_get, option_map}
use Rattle.rw_model.specs.Draft.{Draft}
use Rattle.rw_model.specs.declared.content.Content.{Content}
use Rattle.rw_model.specs.declared.control.AgendaOrder.TheVariants.{HighFirst}
use Rattle.rw_model.specs.declared.kind.Kind.{Kind}
use Rattle.rw_model.specs.declared.kind.Kind.TheVariants.{Reservoir, RoutedReach}
use Rattle.rw_run.specs.Log.{Cells, input_content}
use Rattle.rw_run.specs.Worked.{data_object_basin}
use Rattle.rw_books.specs.declared.book.Book.{Book}
use Rattle.rw_books.specs.Book.{book_of}

-- one object of a kind, over so many days
abbrev pub holding_alone : List ℕ → Kind → ℕ → Draft
holding_alone name kind days = record {
  control = (data_object_basin HighFirst days).control;
  objects = record { name = name; kind = kind } ∷ [];
  links = [];
  bounds = [];
}

abbrev pub holding_reach : Kind
holding_reach = RoutedReach (pos 1000) 250

-- a dam with a LocalInflow and a Diversion where they are chosen
abbrev pub holding_dam : (side : Bool) → Kind
holding_dam side = Reservoir (pos 1000) None side side false false None

-- the values of slots, each from the first timestep on
abbrev pub value_of : Option (List ℤ) → ℕ → Option Content
value_of None step = None
value_of (Some values) step = option_map input_content (slice_get values (step - 1))

abbrev pub cells_by_column : List (List ℤ) → Cells
cells_by_column columns cell = value_of (slice_get columns (cell.slot.0 - 1)) cell.step.0

-- the book of the one object
abbrev pub book : List ℕ → Kind → ℕ → List (List ℤ) → Option Book
book name kind days columns = book_of (holding_alone name kind days) (cells_by_column columns) days 1 kind (pos 1000)
