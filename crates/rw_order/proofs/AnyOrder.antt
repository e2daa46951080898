-- Where one order of dispatches settles, every order does, with the same values.
use Rattle.rw_order.proofs.Common.{AgendaOrder, Bool, CanBeChosen, Cell, Cells, Contains, Content, Draft, Event, FaultEnd, HighFirst, Input, IsFault}
use Rattle.rw_order.proofs.Common.{IsOver, List, Log, LowFirst, MayFollow, MayLead, None, Object, ObjectLimit, Option, RunEnd, Settled, Some}
use Rattle.rw_order.proofs.Common.{Standing, [], after_objects, agenda_of, ap, arith, asked_next, both_ways, cells_of, closed, dispatched, dispatches}
use Rattle.rw_order.proofs.Common.{end_of, false, fault, find, follows_by, given_to, if◌then◌else◌, inl, inr, inside, is_data, is_due, is_some}
use Rattle.rw_order.proofs.Common.{last_closed, nat_le, nat_lt, nat_tests, no_rules, none-some, not, object_at, opened, option_map, over, refl, rests}
use Rattle.rw_order.proofs.Common.{same_Some, solved_balance, since, standing, subst, sym, true, value_in, waiting, ℕ, ◌+◌, ◌<◌, ◌∙◌, ◌∷◌, ◌≡◌, ◌≢◌}
use Rattle.rw_order.proofs.Common.{◌≤◌}
use Rattle.rw_order.proofs.Common.{◌⊎◌}
use Rattle.rw_order.specs.AnyRun.{IsSettledLog}
use Rattle.rw_order.proofs.Writing.{AreBelow}
use Rattle.rw_order.proofs.Resting.{IsAtRest, StaysWithin, stays_within}
use Rattle.rw_order.proofs.Sounds.{IsLaidOut, IsSound, can_stand, level_kept}
use Rattle.rw_order.proofs.Counting.{known_twelve, one_if}
use Rattle.rw_order.proofs.Turns.{opening, ready_object, since_ready, waits_since}
use Rattle.rw_order.proofs.Orderly.{IsOrderly, StandsAt, closes, dispatched_orderly, opens}

-- ---- what may follow

-- a timestep is opened, or closed, or an object that waits is dispatched or at its limit
data Follows (basin : Draft) (log : Log) (event : Event) : Type 0 where
  opening_next : (step : ℕ) → standing log ≡ rests step → step < basin.control.stamps.count → opened (step + 1) ≡ event → Follows basin log event
  closing : (step : ℕ) → standing log ≡ inside step → waiting basin log ≡ [] → closed step ≡ event → Follows basin log event
  dispatching : (step object : ℕ) → standing log ≡ inside step → Contains (waiting basin log) object
      → asked_next basin (cells_of basin log) log step object ≡ event
      → Follows basin log event

no_due : (order : AgendaOrder) (test : ℕ → Bool) → find test (agenda_of order 0) ≡ None
no_due HighFirst test = refl
no_due LowFirst test = refl

follows_of : (basin : Draft) (log : Log) (event : Event) (object : Option ℕ) (at : Standing) → CanBeChosen (waiting basin log) object
    → standing log ≡ at
    → follows_by basin no_rules log object at ≡ Some event → Follows basin log event
follows_of basin log event object (rests step) waits stands e = by (nat_lt step basin.control.stamps.count) refl e
  where
    by : (test : Bool) → nat_lt step basin.control.stamps.count ≡ test → (if test then Some (opened (step + 1)) else None) ≡ Some event
        → Follows basin log event
    by true before is = opening_next step stands (grind (arith, nat_tests, before)) (same_Some _ _ is)
    by false before is = absurd (none-some _ is)
follows_of basin log event None (inside step) waits stands e =
    closing step stands waits
    (same_Some _ _ (sym (ap (after_objects basin no_rules (cells_of basin log) log step)
    (no_due basin.control.agenda (is_due (cells_of basin log) log))) ∙ e))
follows_of basin log event (Some object) (inside step) waits stands e = dispatching step object stands waits (same_Some _ _ e)
follows_of basin log event object over waits stands e = absurd (none-some _ e)

over_stays : (basin : Draft) (old : Log) (events : List Event) (new : Log) → standing old ≡ over → MayLead basin no_rules old events new
    → standing new ≡ over
over_stays basin old [] new is leads = ap standing leads ∙ is
over_stays basin old (event ∷ events) new is leads =
    absurd (none-some _ (sym (ap (λ at. follows_by basin no_rules old leads.0.object at) is) ∙ leads.0.is))

-- ---- how a log ends

fault_or_none : (event : Event) → IsFault event ⊎ (¬ IsFault event)
fault_or_none (fault why) = inl tt
fault_or_none event = inr (λ is. is)

fault_over : (event : Event) (log : Log) → IsFault event → standing (event ∷ log) ≡ over
fault_over (fault why) log is = refl
fault_over event log is = absurd is

abbrev is_over : Standing → Bool
is_over over = true
is_over at = false

abbrev is_settled : RunEnd → Bool
is_settled Settled = true
is_settled (FaultEnd why) = false

-- a log is over exactly where it ended in a fault
over_settled : (log : Log) → is_settled (end_of log) ≡ not (is_over (standing log))
over_settled [] = refl
over_settled (given_to cell value ∷ log) = refl
over_settled (event ∷ log) = refl

settled_is : (end : RunEnd) → is_settled end ≡ true → end ≡ Settled
settled_is Settled e = refl
settled_is (FaultEnd why) e = absurd (both_ways false refl e)

goes_settled : (log : Log) → standing log ≢ over → end_of log ≡ Settled
goes_settled log goes = settled_is (end_of log) (over_settled log ∙ by (standing log) goes)
  where
    by : (at : Standing) → at ≢ over → not (is_over at) ≡ true
    by over goes = absurd (goes refl)
    by at goes = refl

settled_goes : (log : Log) → IsSettledLog log → standing log ≢ over
settled_goes log settled is = both_ways false refl (sym (sym (ap is_settled settled) ∙ over_settled log ∙ ap (λ at. not (is_over at)) is))

abbrev step_in : Standing → ℕ
step_in (rests step) = step
step_in at = 0

-- where it rests after a timestep, that one was closed last
rests_closed : (log : Log) (step : ℕ) → standing log ≡ rests step → 1 ≤ step → last_closed log ≡ step
rests_closed [] step is some = let none : 0 ≡ step = ap step_in is in absurd (omega (arith, none, some))
rests_closed (closed at ∷ log) step is some = ap step_in is
rests_closed (event ∷ log) step is some = let none : 0 ≡ step = ap step_in is in absurd (omega (arith, none, some))

same_values : (one other : Option Content)
    → ((content : Content) → one ≡ Some content → option_map (λ (c : Content). c.value) other ≡ Some content.value)
    → ((content : Content) → other ≡ Some content → option_map (λ (c : Content). c.value) one ≡ Some content.value)
    → option_map (λ (c : Content). c.value) one ≡ option_map (λ (c : Content). c.value) other
same_values None None f g = refl
same_values (Some content) other f g = sym (f content refl)
same_values None (Some content) f g = g content refl

-- ---- the whole log

module _ (basin : Draft) (start : Cells) (laid : IsLaidOut basin)
    (inputs_alone : (cell : Cell) (content : Content) → start cell ≡ Some content → content.writer ≡ Input)
    (limit : 16 ≤ basin.control.object_limit) where
  -- an object that waits was dispatched 12 times at most
  few_dispatches : (log : Log) (step object : ℕ) → IsOrderly basin start log → standing log ≡ inside step → Contains (waiting basin log) object
      → nat_le basin.control.object_limit (dispatches log object) ≡ false
  few_dispatches log step object is stands waits =
      let here : StandsAt basin log (inside step) = subst (StandsAt basin log) stands is.stands in
      let some = waits_since basin log object waits in
      let ready = since_ready basin log object some in
      let there = ready_object basin object ready in
      let last = here.0 in
      let first = here.1.0 in
      let most = is.few object there.0 there.1 ready (omega (arith, last, first)) in
      let one : one_if (is_some (since basin log object)) ≡ 1 = ap one_if some in
      let twelve = known_twelve basin (cells_of basin log) object (opening log) in
      let below : dispatches log object < basin.control.object_limit = omega (arith, most, one, twelve, limit) in
      grind (arith, nat_tests, below)

  asked_dispatched : (log : Log) (step object : ℕ) (event : Event) → IsOrderly basin start log → standing log ≡ inside step
      → Contains (waiting basin log) object
      → asked_next basin (cells_of basin log) log step object ≡ event → dispatched basin (cells_of basin log) object step ≡ event
  asked_dispatched log step object event is stands waits e =
      sym (ap (λ test. if test then fault (ObjectLimit (record { 0 = object }) (record { 0 = step }) (dispatches log object)) else dispatched basin
      (cells_of basin log) object step)
      (few_dispatches log step object is stands waits)) ∙ e

  next_orderly : (log : Log) (event : Event) → IsOrderly basin start log → Follows basin log event → ¬ IsFault event
      → IsOrderly basin start (event ∷ log)
  next_orderly log event is (opening_next step stands before e) fine =
      subst (λ (ev : Event). IsOrderly basin start (ev ∷ log)) e (opens basin start laid inputs_alone log step is stands before)
  next_orderly log event is (closing step stands empty e) fine =
      subst (λ (ev : Event). IsOrderly basin start (ev ∷ log)) e (closes basin start laid inputs_alone log step is stands empty)
  next_orderly log event is (dispatching step object stands waits e) fine =
      dispatched_orderly basin start laid inputs_alone log step object event is stands waits
      (asked_dispatched log step object event is stands waits e) fine

  follows_may : (log : Log) (event : Event) → MayFollow basin no_rules log event → Follows basin log event
  follows_may log event may = follows_of basin log event may.object (standing log) may.waits refl may.is

  all_orderly : (old : Log) (events : List Event) (new : Log) → IsOrderly basin start old → MayLead basin no_rules old events new
      → standing new ≢ over
      → IsOrderly basin start new
  all_orderly old [] new is leads goes = subst (IsOrderly basin start) (sym leads) is
  all_orderly old (event ∷ events) new is leads goes = elim (fault_or_none event) [
    | inl ends ↦ absurd (goes (over_stays basin (event ∷ old) events new (fault_over event old ends) leads.1))
    | inr fine ↦ all_orderly (event ∷ old) events new (next_orderly old event is (follows_may old event leads.0) fine) leads.1 goes
  ]

  -- ---- no log leaves what another comes to

  -- each object is at rest at each timestep
  abbrev AllRest : Cells → Type 0
  AllRest high =
      (object at : ℕ) (found : Object) → object_at basin.objects object ≡ Some found → is_data basin object ≡ false → 1 ≤ at
      → at ≤ basin.control.stamps.count
      → IsAtRest basin start high object at found.kind

  next_within : (high : Cells) (last : ℕ) (log : Log) (event : Event) → IsSound basin start last high → AllRest high → IsOrderly basin start log
      → AreBelow (cells_of basin log) high → Follows basin log event → StaysWithin basin (cells_of basin log) high event
  next_within high last log event sound rest is below (opening_next step stands before e) =
      subst (StaysWithin basin (cells_of basin log) high) e (record { no_fault = λ ends. ends; below = below })
  next_within high last log event sound rest is below (closing step stands empty e) =
      subst (StaysWithin basin (cells_of basin log) high) e (record { no_fault = λ ends. ends; below = below })
  next_within high last log event sound rest is below (dispatching step object stands waits e) =
      let here : StandsAt basin log (inside step) = subst (StandsAt basin log) stands is.stands in
      let ready = since_ready basin log object (waits_since basin log object waits) in
      let there = ready_object basin object ready in
      subst (StaysWithin basin (cells_of basin log) high) (asked_dispatched log step object event is stands waits e)
      (stays_within basin start (cells_of basin log) high object step there.0 there.1 (laid.keeps object there.0 there.1)
      (rest object step there.0 there.1 ready here.1.0 here.1.1) below is.sound.zeros sound.shared
      (level_kept basin start (opening log) laid (cells_of basin log) object step there.0 is.sound there.1)
      (can_stand basin start last laid high (cells_of basin log) object step there.0 there.1 sound))

  never_leaves : (high : Cells) (last : ℕ) (old : Log) (events : List Event) (new : Log) → IsSound basin start last high → AllRest high
      → IsOrderly basin start old → AreBelow (cells_of basin old) high → MayLead basin no_rules old events new
      → IsOrderly basin start new × AreBelow (cells_of basin new) high
  never_leaves high last old [] new sound rest is below leads =
      subst (λ log. IsOrderly basin start log × AreBelow (cells_of basin log) high) (sym leads) (is, below)
  never_leaves high last old (event ∷ events) new sound rest is below leads =
      let follows = follows_may old event leads.0 in
      let within = next_within high last old event sound rest is below follows in
      never_leaves high last (event ∷ old) events new sound rest (next_orderly old event is follows within.no_fault) within.below leads.1

  -- ---- two whole logs

  -- a log that is over, but by no fault, settled, and is at rest in each timestep
  record IsWholeLog (log : Log) : Type 0 where
    settled : IsSettledLog log
    rest : AllRest (cells_of basin log)
    closes_all : last_closed log ≡ basin.control.stamps.count

  whole_by : (log : Log) → 1 ≤ basin.control.stamps.count → IsOrderly basin start log → IsOver basin (standing log) → IsWholeLog log
  whole_by log some is end = by (standing log) refl is.stands end
    where
      by : (at : Standing) → standing log ≡ at → StandsAt basin log at → IsOver basin at → IsWholeLog log
      by over stands here end = absurd here
      by (inside step) stands here end = absurd end
      by (rests step) stands here end = record {
        settled = goes_settled log (λ same. both_ways false refl (ap is_over (sym stands ∙ same)));
        rest = λ object at found there ready first final.
            is.rest object at found there ready first (omega (arith, final, end, here.0))
            (inr (here.1.1 object found (omega (arith, some, end)) there ready));
        closes_all =
            let most = here.1.0 in
            let closed_last = rests_closed log step stands (omega (arith, some, end)) in omega (arith, closed_last, end, most);
      }

  -- what the inputs left stands in each log
  kept_below : (first log : Log) → ((cell : Cell) → cells_of basin first cell ≡ start cell) → IsOrderly basin start log
      → AreBelow (cells_of basin first) (cells_of basin log)
  kept_below first log begins is cell content stands =
      ap (option_map (λ (c : Content). c.value)) (is.sound.kept cell content (sym (begins cell) ∙ stands))

  pub any_order : (first : Log) (events others : List Event) (log other : Log) → 1 ≤ basin.control.stamps.count → IsOrderly basin start first
      → ((cell : Cell) → cells_of basin first cell ≡ start cell)
      → MayLead basin no_rules first events log → IsOver basin (standing log) → IsSettledLog log
      → MayLead basin no_rules first others other → IsOver basin (standing other)
      → IsSettledLog other × (last_closed other ≡ basin.control.stamps.count)
      × ((cell : Cell) → value_in (cells_of basin log) cell ≡ value_in (cells_of basin other) cell)
  any_order first events others log other some is begins leads end solved_balance leads_other end_other =
      let orderly = all_orderly first events log is leads (settled_goes log solved_balance) in
      let whole = whole_by log some orderly end in
      let within =
      never_leaves (cells_of basin log) (opening log) first others other orderly.sound whole.rest is (kept_below first log begins orderly)
      leads_other in
      let whole_other = whole_by other some within.0 end_other in
      let back =
      never_leaves (cells_of basin other) (opening other) first events log within.0.sound whole_other.rest is
      (kept_below first other begins within.0) leads in (
        whole_other.settled,
        whole_other.closes_all,
        λ cell. same_values (cells_of basin log cell) (cells_of basin other cell) (λ content stands. back.1 cell content stands)
            (λ content stands. within.1 cell content stands),
      )
