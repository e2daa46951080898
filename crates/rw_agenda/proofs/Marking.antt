-- Which rules are marked, by their turns and by what they looked at.
use Rattle.rw_base.proofs.Common.{◌≡◌, ◌∙◌, ◌≢◌, ◌+◌, ◌-◌, ◌<◌, ◌≤◌, ◌/◌, ◌%◌, ◌^◌, ◌==◌, ◌||◌, ◌&&◌, ◌⊎◌, ℕ, zero, suc, inl, inr, All, Bool, true}
use Rattle.rw_base.proofs.Common.{false, false≢true, not, List, [], ◌∷◌, Option, None, Some, ap, ap₂, arith, drop, find, get_or, get_or-replicate}
use Rattle.rw_base.proofs.Common.{get_or-set_other, get_or-set_same, get_or_past, if◌then◌else◌, length, length-replicate, length-set, list_any, map}
use Rattle.rw_base.proofs.Common.{nat_eq, nat_lt, nat_tests, none-some, refl, replicate, set, slice_index_or, subst, sym}
use Rattle.std.proofs.Math.ListN.{get_or-map}
use Rattle.std.proofs.Math.Bool.{or-false}
use Rattle.std.proofs.lemmas.Bool.{cases_lt, or_parts}
use Rattle.std.proofs.lemmas.Bool.{and_parts}
use Rattle.std.proofs.lemmas.List.Elements.{All-head, All-tail}
use Rattle.std.proofs.lemmas.List.Folds.{list_any_none}
use Rattle.std.proofs.lemmas.Nat.Bits.{bit_at_ones}
use Rattle.std.specs.Int.{bit_at}
use Rattle.std.specs.List.{slice_get}
use Rattle.rw_base.specs.declared.number.Cell.{Cell}
use Rattle.rw_model.specs.Draft.{Draft}
use Rattle.rw_model.specs.Links.{group_of, is_among}
use Rattle.rw_model.specs.declared.content.Content.{Content}
use Rattle.rw_model.specs.declared.control.AgendaOrder.{AgendaOrder}
use Rattle.rw_model.specs.declared.control.AgendaOrder.TheVariants.{HighFirst, LowFirst}
use Rattle.rw_series.specs.Series.{is_shared}
use Rattle.rw_firing.specs.declared.look.Look.{Look}
use Rattle.rw_run.specs.Dispatch.{cell_at}
use Rattle.rw_run.specs.Index.{is_touched}
use Rattle.rw_run.specs.Log.{Cells}
use Rattle.rw_run.specs.Next.{agenda_of, is_changed}
use Rattle.rw_agenda.specs.Agenda.{AreAllMarked, AreMarkedFresh, AreWatching, Entry, IsIndexed, KeepsRules, agenda_of_marks, first_due_in, forgotten, is_due_in}
use Rattle.rw_agenda.specs.Agenda.{unfired}
use Rattle.rw_agenda.specs.CellIndex.{CellIndex, has_watch, is_met, is_watching, watch_numbered}
use Rattle.rw_agenda.specs.declared.watch.Watch.{Watch}
use Rattle.rw_agenda.specs.declared.limits.TheConstants.{RULES_MAX}
use Rattle.rw_agenda.proofs.Watches.{met_last, met_next, numbered_past, or_right}
use Rattle.rw_agenda.proofs.Order.{high_turn, in_no_turn, low_turn, not_in_turn}
use Rattle.rw_base.specs.Bit.{has_bit}
use Rattle.rw_agenda.specs.Marks.{AreTurns, IsFirst, IsFirstMarked, IsFirstOf, Marks, MarksMore, is_flagged, is_marked_in, agenda_turn, with_mark}

-- ---- turns

turn_below : (order : AgendaOrder) (rules place : ℕ) → place < rules → agenda_turn order rules place < rules
turn_below HighFirst rules place near = near
turn_below LowFirst rules place near = omega (arith, near)

turn_back : (order : AgendaOrder) (rules place : ℕ) → place < rules → agenda_turn order rules (agenda_turn order rules place) ≡ place
turn_back HighFirst rules place near = refl
turn_back LowFirst rules place near = omega (arith, near)

-- ---- the first marked rule

-- what the words have at a turn is whether its rule is marked
turn_tells : (order : AgendaOrder) (flags : List Bool) (words : List ℕ) (turn : ℕ) → AreTurns order flags words → turn < length flags
    → is_marked_in (record { order = order; flags = flags }) turn ≡ has_bit words turn
turn_tells order flags words turn kept near =
    sym (ap (has_bit words) (sym (turn_back order (length flags) turn near))
    ∙ kept.each (agenda_turn order (length flags) turn) (turn_below order (length flags) turn near))

pub none_marked : (order : AgendaOrder) (flags : List Bool) (words : List ℕ) (from : ℕ) → AreTurns order flags words → IsFirstOf words from None
    → IsFirstMarked (record { order = order; flags = flags }) from None
none_marked order flags words from kept none turn after near = turn_tells order flags words turn kept near ∙ none turn after

-- ---- who looked at a cell is marked

among_any : (test : ℕ → Bool) (slot : ℕ) (group : List ℕ) → is_among slot group ≡ true → test slot ≡ true → list_any test group ≡ true
among_any test slot [] is passes = absurd (false≢true is)
among_any test slot (other ∷ group) is passes = by (slot == other) refl is (λ later. among_any test slot group later passes)
  where
    by : (same : Bool) → (slot == other) ≡ same → same || is_among slot group ≡ true → (is_among slot group ≡ true → list_any test group ≡ true)
        → test other || list_any test group ≡ true
    by true same is later =
        let here : slot ≡ other = grind (arith, nat_tests, same) in
        ap (λ t. t || list_any test group) (ap test (sym here) ∙ passes)
    by false same is later = or_right (test other) (list_any test group) (later is)

module _ (basin : Draft) (c : Cell) (index : CellIndex) (place : ℕ) where
  abbrev group : List ℕ
  group = group_of basin.objects basin.links c.slot.0

  abbrev seen : ℕ → Bool
  seen slot = is_watching index (cell_at slot c.step.0) place

  -- the rule looked at no cell of the group, if it watches none
  not_shared : (look : Look) → is_watching index look.cell place ≡ true → list_any seen group ≡ false → is_shared basin c look.cell ≡ false
  not_shared look watching none = by (is_shared basin c look.cell) refl
    where
      by : (shared : Bool) → is_shared basin c look.cell ≡ shared → shared ≡ false
      by false is = refl
      by true is =
          let parts = and_parts _ _ is in
          let step : look.cell.step.0 ≡ c.step.0 = grind (arith, nat_tests, parts.1) in
          let here : seen look.cell.slot.0 ≡ true = ap (λ s. is_watching index (cell_at look.cell.slot.0 s) place) (sym step) ∙ watching in
          absurd (false≢true (sym none ∙ among_any seen look.cell.slot.0 group parts.0 here))

  pub not_touched : (content : Content) (looks : List Look) → All (λ (look : Look). is_watching index look.cell place ≡ true) looks
      → list_any seen group ≡ false → is_touched basin (record { cell = c; content = content } ∷ []) looks ≡ false
  not_touched content [] all none = refl
  not_touched content (look ∷ looks) all none =
      let P : Look → Type 0 = λ (l : Look). is_watching index l.cell place ≡ true in
      ap₂ (λ here later. (here || false) || later) (not_shared look (All-head P look looks all) none)
      (not_touched content looks (All-tail P look looks all) none)

-- what is marked by an index is each rule that looked at a cell of the group, and each that was marked
pub marks_those : (basin : Draft) (c : Cell) (index : CellIndex) (rules : List Entry) (old new : List Bool) → AreWatching rules index
    → length new ≡ length old
    → ((place : ℕ) → place < length old → slice_index_or new place true
    ≡ (slice_index_or old place true
    || list_any (λ slot. is_watching index (cell_at slot c.step.0) place) (group_of basin.objects basin.links c.slot.0)))
    → (content : Content) (place : ℕ) (looks : List Look) → slice_index_or new place true ≡ false
    → (slice_index_or rules place (unfired 0)).looked ≡ Some looks
    → (slice_index_or old place true ≡ false) × (is_touched basin (record { cell = c; content = content } ∷ []) looks ≡ false)
marks_those basin c index rules old new watching many marked content place looks unmarked is = by (cases_lt place (length old))
  where
    by : (place < length old) ⊎ (length old ≤ place)
        → (slice_index_or old place true ≡ false) × (is_touched basin (record { cell = c; content = content } ∷ []) looks ≡ false)
    by (inl near) =
        let both = or_parts _ _ (sym (marked place near) ∙ unmarked) in
        (both.0, not_touched basin c index place content looks (watching place looks is) both.1)
    by (inr past) = absurd (false≢true (sym unmarked ∙ get_or_past new place true (omega (arith, many, past))))

-- the same by watches. Where there was no room for one, each rule is marked
pub marks_known : (basin : Draft) (c : Cell) (index : CellIndex) (rules : List Entry) (old new : List Bool) → AreWatching rules index
    → (index.is_full ≡ true → AreAllMarked old) → length new ≡ length old
    → ((place : ℕ) → place < length old → slice_index_or new place true
    ≡ (slice_index_or old place true
    || list_any (λ slot. has_watch index (cell_at slot c.step.0) place) (group_of basin.objects basin.links c.slot.0)))
    → (content : Content) (place : ℕ) (looks : List Look) → slice_index_or new place true ≡ false
    → (slice_index_or rules place (unfired 0)).looked ≡ Some looks
    → (slice_index_or old place true ≡ false) × (is_touched basin (record { cell = c; content = content } ∷ []) looks ≡ false)
marks_known basin c index rules old new watching all many marked content place looks unmarked is = by index.is_full refl
  where
    still : AreAllMarked old → (place < length old) ⊎ (length old ≤ place) → slice_index_or new place true ≡ true
    still each (inl near) =
        marked place near
        ∙ ap (λ t. t || list_any (λ slot. has_watch index (cell_at slot c.step.0) place) (group_of basin.objects basin.links c.slot.0)) (each place)
    still each (inr past) = get_or_past new place true (omega (arith, many, past))

    by : (full : Bool) → index.is_full ≡ full
        → (slice_index_or old place true ≡ false) × (is_touched basin (record { cell = c; content = content } ∷ []) looks ≡ false)
    by true full = absurd (false≢true (sym unmarked ∙ still (all full) (cases_lt place (length old))))
    by false full =
        marks_those basin c index rules old new watching many
        (λ other near. marked other near
        ∙ ap (λ (t : Bool). slice_index_or old other true
        || list_any (λ slot. t || has_watch index (cell_at slot c.step.0) other) (group_of basin.objects basin.links c.slot.0)) (sym full))
        content place looks unmarked is

-- ---- which rules are due

rule_at : (order : AgendaOrder) (rules turn : ℕ) → turn < rules → slice_get (agenda_of order rules) turn ≡ Some (agenda_turn order rules turn + 1)
rule_at HighFirst rules turn near = high_turn HighFirst rules turn refl near
rule_at LowFirst rules turn near =
    let is : rules - turn ≡ rules - 1 - turn + 1 = omega (arith, near) in low_turn LowFirst rules turn refl near ∙ ap Some is

pub passed_over : (test : ℕ → Bool) (order : AgendaOrder) (rules from count to : ℕ) → to ≡ from + count → to ≤ rules
    → ((turn : ℕ) → from ≤ turn → turn < to → test (agenda_turn order rules turn + 1) ≡ false)
    → find test (drop from (agenda_of order rules)) ≡ find test (agenda_of order rules)
    → find test (drop to (agenda_of order rules)) ≡ find test (agenda_of order rules)
passed_over test order rules from zero to is last none before =
    let same : to ≡ from = omega (arith, is) in ap (λ k. find test (drop k (agenda_of order rules))) same ∙ before
passed_over test order rules from (suc count) to is last none before =
    let near : from < rules = omega (arith, is, last) in
    passed_over test order rules (from + 1) count to (omega (arith, is)) last
    (λ turn after below. none turn (omega (arith, after)) below)
    (not_in_turn test order rules from (agenda_turn order rules from + 1) near (rule_at order rules from near)
    (none from (omega arith) (omega (arith, is))) before)

-- a rule that isn't marked isn't due
pub not_due : (marks : Marks) (rules : List Entry) (cells : Cells) (turn : ℕ) → AreMarkedFresh rules marks.flags
    → IsIndexed (agenda_of_marks marks rules) cells → length marks.flags ≡ length rules → is_marked_in marks turn ≡ false
    → is_due_in (agenda_of_marks marks rules) cells (agenda_turn marks.order (length rules) turn + 1) ≡ false
not_due marks rules cells turn fresh indexed many unmarked =
    by (slice_index_or rules place (unfired 0)).looked refl
  where
    place : ℕ
    place = agenda_turn marks.order (length rules) turn

    at : place + 1 - 1 ≡ place
    at = omega arith

    here : slice_index_or marks.flags place true ≡ false
    here = ap (λ n. slice_index_or marks.flags (agenda_turn marks.order n turn) true) (sym many) ∙ unmarked

    by : (looked : Option (List Look)) → (slice_index_or rules place (unfired 0)).looked ≡ looked
        → is_due_in (agenda_of_marks marks rules) cells (place + 1) ≡ false
    by None is = absurd (false≢true (sym here ∙ fresh place is))
    by (Some looks) is =
        let saw : (slice_index_or rules (place + 1 - 1) (unfired 0)).looked ≡ Some looks =
        ap (λ k. (slice_index_or rules k (unfired 0)).looked) at ∙ is in
        ap (is_changed cells) saw
        ∙ indexed (place + 1) looks (ap (λ k. slice_index_or marks.flags k true) at ∙ here) saw

-- ---- where each rule is marked

pub turns_all : (order : AgendaOrder) (rules : ℕ) → rules ≤ RULES_MAX → AreTurns order (replicate rules true) (replicate 4 (2 ^ 64 - 1))
turns_all order rules few = record {
  many = length-replicate 4 (2 ^ 64 - 1);
  few = let many = length-replicate rules true in omega (arith, many, few);
  each = λ place near.
      let there : place < rules = let many = length-replicate rules true in omega (arith, many, near) in
      ap (λ n. has_bit (replicate 4 (2 ^ 64 - 1)) (agenda_turn order n place)) (length-replicate rules true)
      ∙ has_any (agenda_turn order rules place) (let below = turn_below order rules place there in omega (arith, below, few))
      ∙ sym (get_or-replicate rules place true true there);
}
  where
    has_any : (turn : ℕ) → turn < RULES_MAX → has_bit (replicate 4 (2 ^ 64 - 1)) turn ≡ true
    has_any turn near =
        ap (λ word. bit_at word (turn % 64) == 1) (get_or-replicate 4 (turn / 64) (2 ^ 64 - 1) 0 (omega (arith, near)))
        ∙ ap (λ bit. bit == 1) (bit_at_ones 64 (turn % 64) (omega arith))

pub marked_all : (flags : List Bool) (rules : ℕ) → flags ≡ replicate rules true → AreAllMarked flags
marked_all flags rules is place = by (cases_lt place rules)
  where
    by : (place < rules) ⊎ (rules ≤ place) → slice_index_or flags place true ≡ true
    by (inl near) = ap (λ fs. get_or fs place true) is ∙ get_or-replicate rules place true true near
    by (inr past) =
        let many = ap (λ (fs : List Bool). length fs) is ∙ length-replicate rules true in get_or_past flags place true (omega (arith, past, many))

pub kept_fresh : (rules : List Entry) (flags : List Bool) (index : CellIndex) → length rules ≤ RULES_MAX → flags ≡ replicate (length rules) true
    → ((place : ℕ) → (slice_index_or rules place (unfired 0)).looked ≡ None) → KeepsRules rules flags index
kept_fresh rules flags index few all none = record {
  few = few;
  marked = many;
  fresh = λ place unlooked. marked_all flags (length rules) all place;
  watching = λ place looks is. absurd (none-some looks (sym (none place) ∙ is));
  full = λ is. marked_all flags (length rules) all;
}
  where
    many : length flags ≡ length rules
    many = ap (λ fs. length fs) all ∙ length-replicate (length rules) true

pub none_forgotten : (rules : List Entry) (place : ℕ) → (slice_index_or (map forgotten rules) place (unfired 0)).looked ≡ None
none_forgotten rules place = ap (λ (e : Entry). e.looked) (get_or-map forgotten rules place (unfired 0))

pub none_unfired : (rooms : List ℕ) (place : ℕ) → (slice_index_or (map unfired rooms) place (unfired 0)).looked ≡ None
none_unfired rooms place = ap (λ (e : Entry). e.looked) (get_or-map unfired rooms place 0)

-- the first rule that is due is the first from this turn on
abbrev pub IsFrom : Marks → List Entry → Cells → ℕ → Type 0
IsFrom marks rules cells turn =
    find (is_due_in (agenda_of_marks marks rules) cells) (drop turn (agenda_of marks.order (length rules)))
    ≡ first_due_in (agenda_of_marks marks rules) cells

-- up to the next marked rule none is due
pub passes_to : (marks : Marks) (rules : List Entry) (cells : Cells) (from first : ℕ) → AreMarkedFresh rules marks.flags
    → IsIndexed (agenda_of_marks marks rules) cells → length marks.flags ≡ length rules → IsFirst marks from first
    → IsFrom marks rules cells from → IsFrom marks rules cells first
passes_to marks rules cells from first fresh indexed many is before =
    let after = is.from_there in
    let last = is.last in
    passed_over (is_due_in (agenda_of_marks marks rules) cells) marks.order (length rules) from (first - from) first
    (omega (arith, after)) (omega (arith, last, many))
    (λ turn late below. not_due marks rules cells turn fresh indexed many (is.none_before turn late below)) before

-- where no marked rule is left, none is due
pub none_passes : (marks : Marks) (rules : List Entry) (cells : Cells) (from : ℕ) → AreMarkedFresh rules marks.flags
    → IsIndexed (agenda_of_marks marks rules) cells → length marks.flags ≡ length rules → IsFirstMarked marks from None → from ≤ length rules
    → IsFrom marks rules cells from → None ≡ first_due_in (agenda_of_marks marks rules) cells
none_passes marks rules cells from fresh indexed many none near before =
    in_no_turn (is_due_in (agenda_of_marks marks rules) cells) marks.order (length rules) (length rules) (omega arith)
    (passed_over (is_due_in (agenda_of_marks marks rules) cells) marks.order (length rules) from (length rules - from) (length rules)
    (omega (arith, near)) (omega arith)
    (λ turn late below. not_due marks rules cells turn fresh indexed many (none turn late (omega (arith, below, many)))) before)

-- ---- marks along the watches of a cell

or_none : (x : Bool) → x ≡ (x || false)
or_none true = refl
or_none false = refl

pub marks_last : (watches : List Watch) (past times left number rule step : ℕ) (mark : Bool) → times ≡ suc left
    → watch_numbered watches past number ≡ None → mark ≡ (mark || is_met watches past times number rule step)
marks_last watches past times left number rule step mark more none =
    or_none mark ∙ ap (λ t. mark || t) (sym (met_last watches past times left number rule step more none))

pub marks_next : (watches : List Watch) (past times left number rule step : ℕ) (watch : Watch) (old new : Bool) → times ≡ suc left
    → watch_numbered watches past number ≡ Some watch → new ≡ (old || (watch.rule == rule && watch.step == step))
    → (new || is_met watches past left watch.before rule step) ≡ (old || is_met watches past times number rule step)
marks_next watches past times left number rule step watch old new more found is =
    ap (λ mark. mark || is_met watches past left watch.before rule step) is
    ∙ regroup old (watch.rule == rule && watch.step == step) (is_met watches past left watch.before rule step)
    ∙ ap (λ t. old || t) (sym (met_next watches past times left number rule step watch more found))
  where
    regroup : (x y z : Bool) → ((x || y) || z) ≡ (x || (y || z))
    regroup true y z = refl
    regroup false y z = refl

-- the rule of a watch is marked, where the watch is of the timestep
pub marks_one : (old new : Marks) (rule own time : ℕ) → (own == time) ≡ true → new ≡ with_mark old rule true
    → MarksMore (λ other. rule == other && own == time) old new
marks_one old new rule own time timely is = record {
  order = ap (λ (m : Marks). m.order) is;
  many = ap (λ (m : Marks). length m.flags) is ∙ length-set old.flags rule true;
  marked = λ other near.
      ap (λ (m : Marks). is_flagged m other) is
      ∙ by other near (nat_eq other rule) refl
      ∙ ap (λ t. is_flagged old other || (rule == other && t)) (sym timely);
}
  where
    or_true : (x : Bool) → true ≡ (x || true)
    or_true true = refl
    or_true false = refl

    by : (other : ℕ) → other < length old.flags → (same : Bool) → nat_eq other rule ≡ same
        → is_flagged (with_mark old rule true) other ≡ (is_flagged old other || (rule == other && true))
    by other near true same =
        let here : other ≡ rule = grind (arith, nat_tests, same) in
        let equal : (rule == other) ≡ true = grind (arith, nat_tests, here) in
        ap (λ k. get_or (set old.flags rule true) k true) here
        ∙ get_or-set_same old.flags rule true true (omega (arith, near, here))
        ∙ or_true (is_flagged old other)
        ∙ ap (λ t. is_flagged old other || (t && true)) (sym equal)
    by other near false apart =
        let away : other ≢ rule = grind (arith, nat_tests, apart) in
        let different : (rule == other) ≡ false = grind (arith, nat_tests, away) in
        get_or-set_other old.flags rule other true true away
        ∙ or_none (is_flagged old other)
        ∙ ap (λ t. is_flagged old other || (t && true)) (sym different)

pub marks_none : (marks : Marks) (rule own time : ℕ) → (own == time) ≡ false → MarksMore (λ other. rule == other && own == time) marks marks
marks_none marks rule own time late = record {
  order = refl;
  many = refl;
  marked = λ other near. none (is_flagged marks other) (rule == other) ∙ ap (λ t. is_flagged marks other || (rule == other && t)) (sym late);
}
  where
    none : (x y : Bool) → x ≡ (x || (y && false))
    none true y = refl
    none false true = refl
    none false false = refl

-- where there is no watch none is marked
pub unwatched : (index : CellIndex) (step : ℕ) (group : List ℕ) (marks : Marks) → ((cell : Cell) (rule : ℕ) → has_watch index cell rule ≡ false)
    → MarksMore (λ rule. list_any (λ slot. has_watch index (cell_at slot step) rule) group) marks marks
unwatched index step group marks none = record {
  order = refl;
  many = refl;
  marked = λ rule near.
      sym (ap (λ any. is_flagged marks rule || any)
      (list_any_none (λ slot. has_watch index (cell_at slot step) rule) group (λ k d there. none (cell_at (get_or group k d) step) rule))
      ∙ or-false (is_flagged marks rule));
}

-- where a cell has no newest watch none is marked
met_none : (watches : List Watch) (past times number rule step : ℕ) → number ≤ past → is_met watches past times number rule step ≡ false
met_none watches past zero number rule step none = refl
met_none watches past (suc times) number rule step none =
    met_last watches past (suc times) times number rule step refl (numbered_past watches past number none)

pub unmet : (watches : List Watch) (past times number step : ℕ) (marks : Marks) → number ≤ past
    → MarksMore (λ rule. is_met watches past times number rule step) marks marks
unmet watches past times number step marks none = record {
  order = refl;
  many = refl;
  marked = λ rule near.
      sym (ap (λ met. is_flagged marks rule || met) (met_none watches past times number rule step none) ∙ or-false (is_flagged marks rule));
}
