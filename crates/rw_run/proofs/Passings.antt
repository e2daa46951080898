-- A timestep that was passed, within the log behind it.
use Rattle.rw_base.proofs.Common.{◌≡◌, ◌≢◌, ◌<◌, ◌≤◌, ◌+◌, ◌==◌, ℕ, ℤ, Bool, true, false, List, [], ◌∷◌, Option, Some, None, IsSome, refl, sym, ap}
use Rattle.rw_base.proofs.Common.{subst, ◌∙◌, arith, if◌then◌else◌, nat_tests, same_Some}
use Rattle.rw_base.specs.declared.number.Cell.{Cell}
use Rattle.rw_model.specs.Draft.{Draft}
use Rattle.rw_run.specs.Behind.{IsBehind}
use Rattle.rw_run.specs.declared.fault.RunFault.{RunFault}
use Rattle.rw_run.specs.Frame.{IsStepFrom, log_after}
use Rattle.rw_run.specs.Log.{Event, Log, placed, opened, closed, idle, solved, fired, fault}
use Rattle.rw_run.specs.Next.{Policy}
use Rattle.rw_run.specs.Runs.{Leads, Standing, with_inputs, rests, inside, over, standing}
use Rattle.rw_run.specs.Step.{before_closing, before_opening, events_of, is_closing, is_of_step, is_opening}
use Rattle.rw_run.specs.Timestep.{IsTimestep}
use Rattle.rw_run.proofs.StepEvents.{IsAfter, IsWithin, closes_nothing, is_after, of_its_own, of_no_other, opened_of_no_other, opens_nothing}
use Rattle.rw_run.proofs.StepEvents.{within_opens_nothing}

-- ---- the events of a timestep

-- the log stands behind this timestep, or its run is over
abbrev IsPast : ℕ → Standing → Type 0
IsPast step (rests other) = step ≤ other
IsPast step (inside other) = step < other
IsPast step over = Unit {0}

past_within : (step other : ℕ) (event : Event) (log : Log) → IsWithin other event → step < other → IsPast step (standing (event ∷ log))
past_within step other (closed k) log is past = omega (arith, is, past)
past_within step other (idle object k looked) log is past = omega (arith, is, past)
past_within step other (solved dispatch) log is past = omega (arith, is, past)
past_within step other (fired firing) log is past = omega (arith, is, past)
past_within step other (fault why) log is past = tt
past_within step other event log is past = absurd is

past_next : (step : ℕ) (event : Event) (log : Log) (at : Standing) → IsAfter at event → IsPast step at → IsPast step (standing (event ∷ log))
past_next step event log (rests last) after past =
    subst (λ e. IsPast step (standing (e ∷ log))) (sym after) (omega (arith, past))
past_next step event log (inside last) after past = past_within step last event log after past
past_next step event log over after past = absurd after

abbrev rest_of : Log → Log
rest_of [] = []
rest_of (event ∷ log) = log

abbrev first_in : Event → Log → Event
first_in other [] = other
first_in other (event ∷ log) = event

-- each is within the timestep, and none but the last closes it
abbrev pub AreWithin : ℕ → Event → List Event → Type 0
AreWithin step event [] = IsWithin step event
AreWithin step event (next ∷ events) = IsWithin step event × (is_closing step event ≡ false) × AreWithin step next events

-- the timestep of a log that rested before it, up to the event that ends it
pub record IsPassed (step : ℕ) (old : Log) (end : Event) (before : Log) : Type 0 where
  pub first : Event
  pub events : List Event
  pub whole : end ∷ before ≡ log_after (first ∷ events) (opened step ∷ old)
  pub within : AreWithin step first events

module _ (basin : Draft) (policy : Policy) (step : ℕ) (end : Event) (before : Log) (open_before : standing before ≡ inside step) where
  past_end : (log : Log) (event : Event) (events : List Event) → Leads basin policy log (event ∷ events) (end ∷ before) → IsPast step (standing log)
      → IsPast step (standing before)
  past_end log event [] leads past = subst (λ l. IsPast step (standing l)) (sym (ap rest_of leads.1)) past
  past_end log event (next ∷ events) leads past =
      past_end (event ∷ log) next events leads.1
      (past_next step event log (standing log) (is_after basin policy log event (standing log) leads.0) past)

  -- a timestep that isn't over yet goes on
  goes_on : (event : Event) (log : Log) (next : Event) (events : List Event) → IsWithin step event
      → Leads basin policy (event ∷ log) (next ∷ events) (end ∷ before)
      → (is_closing step event ≡ false) × (standing (event ∷ log) ≡ inside step)
  goes_on (closed k) log next events is leads =
      let past = subst (IsPast step) open_before (past_end (closed k ∷ log) next events leads (omega (arith, is))) in absurd (omega (arith, past))
  goes_on (idle object k looked) log next events is leads = (refl, ap inside is)
  goes_on (solved dispatch) log next events is leads = (refl, ap inside is)
  goes_on (fired firing) log next events is leads = (refl, ap inside is)
  goes_on (fault why) log next events is leads = absurd (is_after basin policy (fault why ∷ log) next over leads.0)
  goes_on event log next events is leads = absurd is

  within_from : (log : Log) (event : Event) (events : List Event) → standing log ≡ inside step
      → Leads basin policy log (event ∷ events) (end ∷ before) → AreWithin step event events
  within_from log event [] at leads = subst (λ k. IsAfter k event) at (is_after basin policy log event (standing log) leads.0)
  within_from log event (next ∷ events) at leads =
      let one = subst (λ k. IsAfter k event) at (is_after basin policy log event (standing log) leads.0) in
      let on = goes_on event log next events one leads.1 in
      (one, on.0, within_from (event ∷ log) next events on.1 leads.1)

pub leads_after : (basin : Draft) (policy : Policy) (old : Log) (events : List Event) (new : Log) → Leads basin policy old events new
    → new ≡ log_after events old
leads_after basin policy old [] new leads = leads
leads_after basin policy old (event ∷ events) new leads = leads_after basin policy (event ∷ old) events new leads.1

-- it rests behind this timestep
abbrev IsAtRest : ℕ → Standing → Type 0
IsAtRest step (rests other) = step ≡ other
IsAtRest step at = ⊥

abbrev IsRest : Standing → Type 0
IsRest (rests step) = Unit {0}
IsRest at = ⊥

pub passed : (basin : Draft) (policy : Policy) (step last : ℕ) (old before : Log) (events : List Event) (end : Event) → standing old ≡ rests last
    → step ≡ last + 1 → standing before ≡ inside step → standing (end ∷ before) ≢ rests last → Leads basin policy old events (end ∷ before)
    → IsPassed step old end before
passed basin policy step last old before [] end rest next_one open_before moved leads = absurd (moved (ap standing leads ∙ rest))
passed basin policy step last old before (event ∷ []) end rest next_one open_before moved leads =
    absurd (subst IsRest (sym (ap (λ log. standing (rest_of log)) leads.1 ∙ rest) ∙ open_before) tt)
passed basin policy step last old before (event ∷ first ∷ events) end rest next_one open_before moved leads =
    let after = subst (λ k. IsAfter k event) rest (is_after basin policy old event (standing old) leads.0) in
    let opens : event ≡ opened step = after ∙ ap opened (sym next_one) in
    let on : Leads basin policy (opened step ∷ old) (first ∷ events) (end ∷ before) =
    subst (λ e. Leads basin policy (e ∷ old) (first ∷ events) (end ∷ before)) opens leads.1 in record {
      first = first;
      events = events;
      whole = leads_after basin policy (opened step ∷ old) (first ∷ events) (end ∷ before) on;
      within = within_from basin policy step end before open_before (opened step ∷ old) first events refl on;
    }

-- ---- what the log has of its timesteps behind it

-- what goes by the events of another timestep alone is as it was
unmoved : {A : Type 0} (f : Log → A) (step other : ℕ) (event : Event) (events : List Event) (log : Log)
    → ((event : Event) (log : Log) → is_of_step other event ≡ false → f (event ∷ log) ≡ f log) → step ≢ other → AreWithin step event events
    → f (log_after (event ∷ events) log) ≡ f log
unmoved f step other event [] log apart differ within = apart event log (of_no_other step other event within differ)
unmoved f step other event (next ∷ events) log apart differ within =
    unmoved f step other next events (event ∷ log) apart differ within.2 ∙ apart event log (of_no_other step other event within.0 differ)

still : {A : Type 0} (f : Log → A) (step other : ℕ) (old before : Log) (end : Event)
    → ((event : Event) (log : Log) → is_of_step other event ≡ false → f (event ∷ log) ≡ f log) → step ≢ other → IsPassed step old end before
    → f (end ∷ before) ≡ f old
still f step other old before end apart differ passed =
    ap f passed.whole ∙ unmoved f step other passed.first passed.events (opened step ∷ old) apart differ passed.within
    ∙ apart (opened step) old (opened_of_no_other step other differ)

pub still_events : (step other : ℕ) (old before : Log) (end : Event) → step ≢ other → IsPassed step old end before
    → events_of other (end ∷ before) ≡ events_of other old
still_events step other old before end =
    still (events_of other) step other old before end
    (λ event log none. ap (λ (t : Bool). if t then event ∷ events_of other log else events_of other log) none)

pub still_opening : (step other : ℕ) (old before : Log) (end : Event) → step ≢ other → IsPassed step old end before
    → before_opening other (end ∷ before) ≡ before_opening other old
still_opening step other old before end =
    still (before_opening other) step other old before end
    (λ event log none. ap (λ (t : Bool). if t then Some log else before_opening other log) (opens_nothing other event none))

pub still_closing : (step other : ℕ) (old before : Log) (end : Event) → step ≢ other → IsPassed step old end before
    → before_closing other (end ∷ before) ≡ before_closing other old
still_closing step other old before end =
    still (before_closing other) step other old before end
    (λ event log none. ap (λ (t : Bool). if t then Some log else before_closing other log) (closes_nothing other event none))

-- ---- and of this one

pub own_number : (step : ℕ) → (step == step) ≡ true
own_number step = grind (arith, nat_tests)

opened_by_none : (step : ℕ) (event : Event) (log : Log) → IsWithin step event → before_opening step (event ∷ log) ≡ before_opening step log
opened_by_none step event log is = ap (λ (t : Bool). if t then Some log else before_opening step log) (within_opens_nothing step step event is)

opening_within : (step : ℕ) (event : Event) (events : List Event) (log : Log) → AreWithin step event events
    → before_opening step (log_after (event ∷ events) log) ≡ before_opening step log
opening_within step event [] log within = opened_by_none step event log within
opening_within step event (next ∷ events) log within =
    opening_within step next events (event ∷ log) within.2 ∙ opened_by_none step event log within.0

pub own_opening : (step : ℕ) (old before : Log) (end : Event) → IsPassed step old end before → before_opening step (end ∷ before) ≡ Some old
own_opening step old before end passed =
    ap (before_opening step) passed.whole ∙ opening_within step passed.first passed.events (opened step ∷ old) passed.within
    ∙ ap (λ (t : Bool). if t then Some old else before_opening step old) (own_number step)

events_one : (step : ℕ) (event : Event) (log : Log) → IsWithin step event → events_of step (event ∷ log) ≡ event ∷ events_of step log
events_one step event log is = ap (λ (t : Bool). if t then event ∷ events_of step log else events_of step log) (of_its_own step event is)

events_within : (step : ℕ) (event : Event) (events : List Event) (log : Log) → AreWithin step event events
    → events_of step (log_after (event ∷ events) log) ≡ log_after (event ∷ events) (events_of step log)
events_within step event [] log within = events_one step event log within
events_within step event (next ∷ events) log within =
    events_within step next events (event ∷ log) within.2 ∙ ap (log_after (next ∷ events)) (events_one step event log within.0)

pub own_events : (step : ℕ) (old before : Log) (end : Event) (passed : IsPassed step old end before) → events_of step old ≡ []
    → events_of step (end ∷ before) ≡ log_after (passed.first ∷ passed.events) (opened step ∷ [])
own_events step old before end passed none =
    ap (events_of step) passed.whole ∙ events_within step passed.first passed.events (opened step ∷ old) passed.within
    ∙ ap (log_after (passed.first ∷ passed.events))
    (ap (λ (t : Bool). if t then opened step ∷ events_of step old else events_of step old) (own_number step) ∙ ap (λ log. opened step ∷ log) none)

closed_by_none : (step : ℕ) (event : Event) (log : Log) → is_closing step event ≡ false → before_closing step (event ∷ log) ≡ before_closing step log
closed_by_none step event log none = ap (λ (t : Bool). if t then Some log else before_closing step log) none

closing_within : (step : ℕ) (event end : Event) (events : List Event) (log before : Log) → AreWithin step event events
    → end ∷ before ≡ log_after (event ∷ events) log → is_closing step end ≡ false
    → before_closing step (log_after (event ∷ events) log) ≡ before_closing step log
closing_within step event end [] log before within whole none =
    closed_by_none step event log (subst (λ e. is_closing step e ≡ false) (ap (first_in end) whole) none)
closing_within step event end (next ∷ events) log before within whole none =
    closing_within step next end events (event ∷ log) before within.2 whole none ∙ closed_by_none step event log within.1

-- one that ends by a fault isn't closed
pub own_closing : (step : ℕ) (old before : Log) (end : Event) → IsPassed step old end before → is_closing step end ≡ false
    → before_closing step (end ∷ before) ≡ before_closing step old
own_closing step old before end passed none =
    ap (before_closing step) passed.whole
    ∙ closing_within step passed.first end passed.events (opened step ∷ old) before passed.within passed.whole none

-- ---- a timestep of which the log has no event

some_first : {A : Type 0} (x : A) (xs : List A) → x ∷ xs ≡ [] → ⊥
some_first x xs is = absurd (cc)

-- where the timestep has no event, the newest event is none of its own
not_first : (step : ℕ) (event : Event) (log : Log) → events_of step (event ∷ log) ≡ []
    → (is_of_step step event ≡ false) × (events_of step log ≡ [])
not_first step event log none = by (is_of_step step event) refl none
  where
    by : (own : Bool) → is_of_step step event ≡ own → (if own then event ∷ events_of step log else events_of step log) ≡ []
        → (is_of_step step event ≡ false) × (events_of step log ≡ [])
    by true is none = absurd (some_first event (events_of step log) none)
    by false is none = (is, none)

pub unopened : (step : ℕ) (log : Log) → events_of step log ≡ [] → before_opening step log ≡ None
unopened step [] none = refl
unopened step (event ∷ log) none =
    let both = not_first step event log none in
    ap (λ (t : Bool). if t then Some log else before_opening step log) (opens_nothing step event both.0) ∙ unopened step log both.1

pub unclosed : (step : ℕ) (log : Log) → events_of step log ≡ [] → before_closing step log ≡ None
unclosed step [] none = refl
unclosed step (event ∷ log) none =
    let both = not_first step event log none in
    ap (λ (t : Bool). if t then Some log else before_closing step log) (closes_nothing step event both.0) ∙ unclosed step log both.1

pub none-placed : (step : ℕ) (log : Log) (inputs : List (Cell × ℤ)) → events_of step log ≡ [] → events_of step (with_inputs log inputs) ≡ []
none-placed step log [] none = none
none-placed step log (input ∷ inputs) none = none-placed step (placed input.0 input.1 ∷ log) inputs none

-- ---- what is behind a closed timestep, and behind one that a fault ended

step_closes : (step : ℕ) (event : Event) (events : List Event) (log : Log) → IsStepFrom step event events
    → log_after (event ∷ events) log ≡ closed step ∷ rest_of (log_after (event ∷ events) log)
step_closes step event [] log is = ap (λ e. e ∷ log) is
step_closes step event (next ∷ events) log is = step_closes step next events (event ∷ log) is.1

stays_open : (step : ℕ) (event : Event) (log : Log) → IsWithin step event → standing (event ∷ []) ≡ inside step
    → (is_closing step event ≡ false) × (standing (event ∷ log) ≡ inside step)
stays_open step (closed k) log is at = absurd (subst IsRest at tt)
stays_open step (idle object k looked) log is at = (refl, at)
stays_open step (solved dispatch) log is at = (refl, at)
stays_open step (fired firing) log is at = (refl, at)
stays_open step (fault why) log is at = (refl, at)
stays_open step event log is at = absurd is

within_step : (basin : Draft) (policy : Policy) (step : ℕ) (log end : Log) (event : Event) (events : List Event) → standing log ≡ inside step
    → IsStepFrom step event events → Leads basin policy log (event ∷ events) end → AreWithin step event events
within_step basin policy step log end event [] at goes leads =
    subst (λ k. IsAfter k event) at (is_after basin policy log event (standing log) leads.0)
within_step basin policy step log end event (next ∷ events) at goes leads =
    let one = subst (λ k. IsAfter k event) at (is_after basin policy log event (standing log) leads.0) in
    let on = stays_open step event log one goes.0 in
    (one, on.0, within_step basin policy step (event ∷ log) end next events on.1 goes.1 leads.1)

behind : (step : ℕ) (old before : Log) (end : Event) → IsPassed step old end before → IsBehind step old (end ∷ before)
behind step old before end passed = record {
  opening = own_opening step old before end passed;
  openings = λ other differ. still_opening step other old before end differ passed;
  closings = λ other differ. still_closing step other old before end differ passed;
  events = λ other differ. still_events step other old before end differ passed;
}

pub closed_behind : (basin : Draft) (policy : Policy) (step : ℕ) (old : Log) (first : Event) (events : List Event)
    → IsTimestep basin policy step old first events → events_of step old ≡ []
    → IsBehind step old (log_after (first ∷ events) (opened step ∷ old))
    × (events_of step (log_after (first ∷ events) (opened step ∷ old)) ≡ log_after (first ∷ events) (opened step ∷ []))
    × IsSome (before_closing step (log_after (first ∷ events) (opened step ∷ old)))
closed_behind basin policy step old first events timestep none =
    let new : Log = log_after (first ∷ events) (opened step ∷ old) in
    let ends : new ≡ closed step ∷ rest_of new = step_closes step first events (opened step ∷ old) timestep.goes in
    let passed : IsPassed step old (closed step) (rest_of new) = record {
      first = first;
      events = events;
      whole = sym ends;
      within = within_step basin policy step (opened step ∷ old) new first events refl timestep.goes timestep.leads;
    } in (
      subst (IsBehind step old) (sym ends) (behind step old (rest_of new) (closed step) passed),
      ap (events_of step) ends ∙ own_events step old (rest_of new) (closed step) passed none,
      subst (λ log. IsSome (before_closing step log)) (sym ends)
          (subst IsSome (sym (ap (λ (t : Bool). if t then Some (rest_of new) else before_closing step (rest_of new)) (own_number step))) refl),
    )

pub faulted_behind : (basin : Draft) (policy : Policy) (step last : ℕ) (old before : Log) (events : List Event) (why : RunFault)
    → standing old ≡ rests last → step ≡ last + 1 → standing before ≡ inside step → Leads basin policy old events (fault why ∷ before)
    → events_of step old ≡ [] → IsBehind step old (fault why ∷ before) × (before_closing step (fault why ∷ before) ≡ None)
faulted_behind basin policy step last old before events why rest next_one open_before leads none =
    let moved : standing (fault why ∷ before) ≢ rests last = λ same. subst IsRest (sym same) tt in
    let went = passed basin policy step last old before events (fault why) rest next_one open_before moved leads in
    (behind step old before (fault why) went, own_closing step old before (fault why) went refl ∙ unclosed step old none)

pub begun : (inputs : List (Cell × ℤ)) (step : ℕ) → events_of step (with_inputs [] inputs) ≡ []
begun inputs step = none-placed step [] inputs refl

pub nothing_of : (step : ℕ) (log : Log) → events_of step log ≡ [] → (before_opening step log ≡ None) × (before_closing step log ≡ None)
nothing_of step log none = (unopened step log none, unclosed step log none)

-- ---- a timestep can be closed in one way

module _ (basin : Draft) (policy : Policy) (step : ℕ) where
  same_closing : (log before other : Log) (xs ys : List Event) → standing before ≡ inside step → standing other ≡ inside step
      → Leads basin policy log xs (closed step ∷ before) → Leads basin policy log ys (closed step ∷ other)
      → closed step ∷ before ≡ closed step ∷ other
  same_closing log before other [] [] at to one two = one ∙ sym two
  same_closing log before other [] (y ∷ ys) at to one two =
      let there = subst (IsPast step) (ap standing one) (omega arith) in
      let past = subst (IsPast step) to (past_end basin policy step (closed step) other to log y ys two there) in absurd (omega (arith, past))
  same_closing log before other (x ∷ xs) [] at to one two =
      let there = subst (IsPast step) (ap standing two) (omega arith) in
      let past = subst (IsPast step) at (past_end basin policy step (closed step) before at log x xs one there) in absurd (omega (arith, past))
  same_closing log before other (x ∷ xs) (y ∷ ys) at to one two =
      let same : y ≡ x = same_Some _ _ (sym two.0 ∙ one.0) in
      same_closing (x ∷ log) before other xs ys at to one.1 (subst (λ e. Leads basin policy (e ∷ log) ys (closed step ∷ other)) same two.1)

  rest_inside : (log end : Log) (event : Event) (events : List Event) → standing log ≡ inside step → IsStepFrom step event events
      → Leads basin policy log (event ∷ events) end → standing (rest_of (log_after (event ∷ events) log)) ≡ inside step
  rest_inside log end event [] at goes leads = at
  rest_inside log end event (next ∷ events) at goes leads =
      let one = subst (λ k. IsAfter k event) at (is_after basin policy log event (standing log) leads.0) in
      rest_inside (event ∷ log) end next events (stays_open step event log one goes.0).1 goes.1 leads.1

  pub one_timestep : (last : ℕ) (old before : Log) (events own : List Event) (first : Event) → standing old ≡ rests last → step ≡ last + 1
      → standing before ≡ inside step → Leads basin policy old events (closed step ∷ before) → IsTimestep basin policy step old first own
      → closed step ∷ before ≡ log_after (first ∷ own) (opened step ∷ old)
  one_timestep last old before [] own first rest next_one open_before leads timestep =
      let same = subst (IsAtRest step) (ap standing leads ∙ rest) refl in absurd (omega (arith, same, next_one))
  one_timestep last old before (event ∷ []) own first rest next_one open_before leads timestep =
      absurd (subst IsRest (sym (ap (λ log. standing (rest_of log)) leads.1 ∙ rest) ∙ open_before) tt)
  one_timestep last old before (event ∷ next ∷ events) own first rest next_one open_before leads timestep =
      let after = subst (λ k. IsAfter k event) rest (is_after basin policy old event (standing old) leads.0) in
      let opens : event ≡ opened step = after ∙ ap opened (sym next_one) in
      let on : Leads basin policy (opened step ∷ old) (next ∷ events) (closed step ∷ before) =
      subst (λ e. Leads basin policy (e ∷ old) (next ∷ events) (closed step ∷ before)) opens leads.1 in
      let new : Log = log_after (first ∷ own) (opened step ∷ old) in
      let ends : new ≡ closed step ∷ rest_of new = step_closes step first own (opened step ∷ old) timestep.goes in
      same_closing (opened step ∷ old) before (rest_of new) (next ∷ events) (first ∷ own) open_before
      (rest_inside (opened step ∷ old) new first own refl timestep.goes timestep.leads) on
      (subst (Leads basin policy (opened step ∷ old) (first ∷ own)) ends timestep.leads)
      ∙ sym ends
