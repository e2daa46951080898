-- Which rules are marked, and at which turn each is taken.
use Rattle.std.specs.Prelude.{ℕ, ◌-◌, ◌≡◌, ◌≤◌, ◌<◌, Bool, true, false, List, length, replicate, set, Option, Some, None, slice_index_or, ◌||◌}
use Rattle.std.specs.Int.{bit_at}
use Rattle.rw_base.specs.Bit.{has_bit}
use Rattle.rw_model.specs.declared.control.AgendaOrder.{AgendaOrder}
use Rattle.rw_model.specs.declared.control.AgendaOrder.TheVariants.{HighFirst, LowFirst}
use Rattle.rw_agenda.specs.declared.limits.TheConstants.{RULES_MAX, TURN_WORDS}

-- in which order rules are taken, and for each whether it is marked, that of rule 1 first
pub record Marks : Type 0 where
  pub order : AgendaOrder
  pub flags : List Bool

-- each of so many rules is marked
abbrev pub all_marked : AgendaOrder → ℕ → Marks
all_marked order rules = record { order = order; flags = replicate rules true }

-- the rule in a place is marked, or isn't any more
abbrev pub with_mark : Marks → ℕ → Bool → Marks
with_mark marks place mark = record { order = marks.order; flags = set marks.flags place mark }

-- the rule in a place is marked
abbrev pub is_flagged : Marks → ℕ → Bool
is_flagged marks place = slice_index_or marks.flags place true

-- each rule that passes the test is marked, each that was marked still is, and no other is
pub record MarksMore (test : ℕ → Bool) (old new : Marks) : Type 0 where
  pub order : new.order ≡ old.order
  pub many : length new.flags ≡ length old.flags
  pub marked : (rule : ℕ) → rule < length old.flags → is_flagged new rule ≡ (is_flagged old rule || test rule)

-- the turn of the rule in a place, of so many rules; and the place of the rule whose turn it is. Both count from 0
abbrev pub agenda_turn : AgendaOrder → ℕ → ℕ → ℕ
agenda_turn HighFirst rules place = place
agenda_turn LowFirst rules place = rules - 1 - place

-- the rule whose turn it is is marked
abbrev pub is_marked_in : Marks → ℕ → Bool
is_marked_in marks turn = slice_index_or marks.flags (agenda_turn marks.order (length marks.flags) turn) true

-- this is the first turn of a marked rule from a turn on
pub record IsFirst (marks : Marks) (from turn : ℕ) : Type 0 where
  pub from_there : from ≤ turn
  pub last : turn < length marks.flags
  pub marked : is_marked_in marks turn ≡ true
  pub none_before : (other : ℕ) → from ≤ other → other < turn → is_marked_in marks other ≡ false

-- and none exactly where no marked rule is left
abbrev pub IsFirstMarked : Marks → ℕ → Option ℕ → Type 0
IsFirstMarked marks from None = (turn : ℕ) → from ≤ turn → turn < length marks.flags → is_marked_in marks turn ≡ false
IsFirstMarked marks from (Some turn) = IsFirst marks from turn

-- ---- turns as bits of words

-- the words have the turns of the marked rules
pub record AreTurns (order : AgendaOrder) (flags : List Bool) (words : List ℕ) : Type 0 where
  pub many : length words ≡ TURN_WORDS
  pub few : length flags ≤ RULES_MAX
  pub each : (place : ℕ) → place < length flags → has_bit words (agenda_turn order (length flags) place) ≡ slice_index_or flags place true

-- this is the first turn from one on that is in the words
pub record IsFirstTurn (words : List ℕ) (from turn : ℕ) : Type 0 where
  pub from_there : from ≤ turn
  pub there : has_bit words turn ≡ true
  pub none_before : (other : ℕ) → from ≤ other → other < turn → has_bit words other ≡ false

abbrev pub IsFirstOf : List ℕ → ℕ → Option ℕ → Type 0
IsFirstOf words from None = (turn : ℕ) → from ≤ turn → has_bit words turn ≡ false
IsFirstOf words from (Some turn) = IsFirstTurn words from turn

-- this is the first bit of a word from one on that is set
pub record IsLowBit (word from bit : ℕ) : Type 0 where
  pub from_there : from ≤ bit
  pub last : bit < 64
  pub there : bit_at word bit ≡ 1
  pub none_before : (other : ℕ) → from ≤ other → other < bit → bit_at word other ≡ 0

abbrev pub IsFirstBit : ℕ → ℕ → Option ℕ → Type 0
IsFirstBit word from None = (bit : ℕ) → from ≤ bit → bit_at word bit ≡ 0
IsFirstBit word from (Some bit) = IsLowBit word from bit
