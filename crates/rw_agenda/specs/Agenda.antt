-- What is kept of the rules of a policy within a timestep, and which of them is the first that is due.
use Rattle.std.specs.Prelude.{ℕ, ◌-◌, ◌≡◌, ◌≢◌, ◌≤◌, Bool, true, false, List, [], ◌∷◌, length, set, Option, Some, None, slice_index_or, All}
use Rattle.std.specs.List.{find}
use Rattle.rw_base.specs.declared.number.Cell.{Cell}
use Rattle.rw_model.specs.declared.content.Content.{Content}
use Rattle.rw_model.specs.declared.control.AgendaOrder.{AgendaOrder}
use Rattle.rw_model.specs.Draft.{Draft}
use Rattle.rw_firing.specs.declared.look.Look.{Look}
use Rattle.rw_run.specs.Index.{IsIndex, MarksTouched}
use Rattle.rw_run.specs.Log.{Cells}
use Rattle.rw_run.specs.Next.{agenda_of, is_changed}
use Rattle.rw_agenda.specs.CellIndex.{CellIndex, is_watching}
use Rattle.rw_agenda.specs.Marks.{Marks}
use Rattle.rw_agenda.specs.declared.limits.TheConstants.{RULES_MAX}

-- of a rule: for how many looks there is room, and at what it looked when it last fired, if it fired
pub record Entry : Type 0 where
  pub room : ℕ
  pub looked : Option (List Look)

-- in which order rules are taken, and for each an entry and whether it is marked, those of rule 1 first. Of a rule that isn't
-- marked it is known that its cells hold what it saw
pub record Agenda : Type 0 where
  pub order : AgendaOrder
  pub rules : List Entry
  pub marks : List Bool

-- a rule that hasn't fired
abbrev pub unfired : ℕ → Entry
unfired room = record { room = room; looked = None }

-- each rule that hasn't fired is marked
abbrev pub AreMarkedFresh : List Entry → List Bool → Type 0
AreMarkedFresh rules marks =
    (place : ℕ) → (slice_index_or rules place (unfired 0)).looked ≡ None → slice_index_or marks place true ≡ true

-- each rule watches the cells at which it looked
abbrev pub AreWatching : List Entry → CellIndex → Type 0
AreWatching rules index =
    (place : ℕ) (looks : List Look) → (slice_index_or rules place (unfired 0)).looked ≡ Some looks
    → All (λ (look : Look). is_watching index look.cell place ≡ true) looks

-- each rule is marked
abbrev pub AreAllMarked : List Bool → Type 0
AreAllMarked marks = (place : ℕ) → slice_index_or marks place true ≡ true

-- there are no more rules than there can be, and a mark for each; each is marked where there was no room for a watch
pub record KeepsRules (rules : List Entry) (marks : List Bool) (index : CellIndex) : Type 0 where
  pub few : length rules ≤ RULES_MAX
  pub marked : length marks ≡ length rules
  pub fresh : AreMarkedFresh rules marks
  pub watching : AreWatching rules index
  pub full : index.is_full ≡ true → AreAllMarked marks

-- a rule in a timestep that begins
abbrev pub forgotten : Entry → Entry
forgotten entry = unfired entry.room

-- the number of a rule of the agenda
pub record IsListed (agenda : Agenda) (rule : ℕ) : Type 0 where
  pub first : 1 ≤ rule
  pub last : rule ≤ length agenda.rules

abbrev pub entry_of : Agenda → ℕ → Entry
entry_of agenda rule = slice_index_or agenda.rules (rule - 1) (unfired 0)

-- the rule is marked, so that its looks have to be compared
abbrev pub is_marked : Agenda → ℕ → Bool
is_marked agenda rule = slice_index_or agenda.marks (rule - 1) true

-- for how many looks of a rule there is room
abbrev pub look_room : Agenda → ℕ → ℕ
look_room agenda rule = (entry_of agenda rule).room

-- at what a rule looked when it last fired, if it fired
abbrev pub looked_by : Agenda → ℕ → Option (List Look)
looked_by agenda rule = (entry_of agenda rule).looked

-- the entries once a rule has fired and looked at this
abbrev pub after_firing : Agenda → ℕ → List Look → List Entry
after_firing agenda rule looks =
    set agenda.rules (rule - 1) (record { room = look_room agenda rule; looked = Some looks })

-- ---- marks

-- the cells of each rule that isn't marked hold what it saw
abbrev pub IsIndexed : Agenda → Cells → Type 0
IsIndexed agenda cells = IsIndex cells (looked_by agenda) (is_marked agenda)

-- each rule that was marked still is, and so is each that looked at a cell which shares its value with this one
abbrev pub MarksThose : Draft → Cell → Agenda → Agenda → Type 0
MarksThose basin cell old new =
    (content : Content) → MarksTouched basin (record { cell = cell; content = content } ∷ []) (looked_by new) (is_marked old) (is_marked new)

-- each other rule that was marked still is
abbrev pub KeepsOtherMarks : ℕ → Agenda → Agenda → Type 0
KeepsOtherMarks rule old new =
    (other : ℕ) → IsListed old other → other ≢ rule → is_marked new other ≡ false → is_marked old other ≡ false

-- ---- what is due

-- the rule hasn't fired, or it saw what is no longer held
abbrev pub is_due_in : Agenda → Cells → ℕ → Bool
is_due_in agenda cells rule = is_changed cells (looked_by agenda rule)

-- the first rule that is due, in the agenda's order
abbrev pub first_due_in : Agenda → Cells → Option ℕ
first_due_in agenda cells = find (is_due_in agenda cells) (agenda_of agenda.order (length agenda.rules))

-- the agenda of rules with these marks
abbrev pub agenda_of_marks : Marks → List Entry → Agenda
agenda_of_marks marks rules = record { order = marks.order; rules = rules; marks = marks.flags }
