-- A run exists: in a timestep each event but its closing and a fault leaves fewer dispatches and firings below their limits.
use Rattle.rw_base.proofs.Common.{◌≡◌, ◌<◌, ◌≤◌, ◌+◌, ◌-◌, ◌==◌, ℕ, zero, suc, ℤ, Bool, true, false, cond, List, [], ◌∷◌, length, map, Option, Some}
use Rattle.rw_base.proofs.Common.{None, is_some, IsSome, nat_le, nat_lt, refl, sym, ap, subst, ◌∙◌, arith, inl, inr, ◌⊎◌, if◌then◌else◌, option_map}
use Rattle.rw_base.proofs.Common.{nat_tests, same_Some, none-some}
use Rattle.rw_base.specs.declared.number.Cell.{Cell}
use Rattle.rw_model.specs.Draft.{Draft}
use Rattle.rw_method.specs.declared.solved.Solved.{Solved}
use Rattle.rw_method.specs.declared.solved.Solved.TheVariants.{Idle, Puts, Conflict, OutOfRange}
use Rattle.rw_firing.specs.Fire.{Fire}
use Rattle.rw_firing.specs.declared.fire.FireEnd.{FireEnd}
use Rattle.rw_firing.specs.declared.fire.FireEnd.TheVariants.{Done, Unknown, ZeroDivisor as DividesByZero, OutOfRange as EndsOutside}
use Rattle.rw_firing.specs.declared.look.Look.{Look}
use Rattle.rw_run.specs.declared.fault.RunFault.TheVariants.{ObjectLimit, RuleLimit}
use Rattle.rw_run.specs.Dispatch.{asked_by, answered, denied_by, dispatch_of, dispatched, end_in, judged, looked_cells, looks_at, or_fault, solved_by}
use Rattle.rw_run.specs.Frame.{IsFault}
use Rattle.rw_run.specs.Log.{Asked, Cells, Event, Log, cells_of, placed, opened, closed, idle, solved, fault, value_in}
use Rattle.rw_run.specs.Next.{Policy, after_objects, asked_next, count_if, dispatches, ended, firing_of, firings, first_due, next, next_of, no_rules}
use Rattle.rw_run.specs.Policy.{IsPolicyOf, IsRule}
use Rattle.rw_run.specs.Runs.{IsOver, IsRun, Leads, rests, inside, follows, follows_in, with_inputs, standing}
use Rattle.rw_run.specs.Times.{times}
use Rattle.rw_run.specs.Waiting.{first_of, first_waiting, numbers, since, waiting}
use Rattle.rw_run.proofs.Lists.{times-numbers}
use Rattle.rw_run.proofs.SameRuns.{due_is_rule}
use Rattle.rw_run.proofs.Waits.{times-waiting}

-- ---- what is left below a limit

abbrev left : ℕ → (ℕ → ℕ) → ℕ → ℕ
left limit count zero = 0
left limit count (suc n) = (limit - count (suc n)) + left limit count n

left_same : (limit : ℕ) (old new : ℕ → ℕ) (n : ℕ) → ((k : ℕ) → old k ≤ new k) → left limit new n ≤ left limit old n
left_same limit old new zero more = omega arith
left_same limit old new (suc n) more = let here = more (suc n) in let rest = left_same limit old new n more in omega (arith, here, rest)

here_or_below : (a n : ℕ) → a ≤ suc n → (a ≡ suc n) ⊎ (a ≤ n)
here_or_below a n last = by_test (nat_le a n) refl
  where
    by_test : (test : Bool) → nat_le a n ≡ test → (a ≡ suc n) ⊎ (a ≤ n)
    by_test true is = inr (grind (arith, nat_tests, is))
    by_test false is = inl (grind (arith, nat_tests, is, last))

left_falls : (limit : ℕ) (old new : ℕ → ℕ) (n a : ℕ) → ((k : ℕ) → old k ≤ new k) → 1 ≤ a → a ≤ n → old a < new a → old a < limit
    → left limit new n < left limit old n
left_falls limit old new zero a more first last grew below = absurd (omega (arith, first, last))
left_falls limit old new (suc n) a more first last grew below = elim (here_or_below a n last) [
  | inl is ↦
      let grew_here = subst (λ k. old k < new k) is grew in
      let below_here = subst (λ k. old k < limit) is below in
      let rest = left_same limit old new n more in omega (arith, grew_here, below_here, rest)
  | inr later ↦
      let here = more (suc n) in let rest = left_falls limit old new n a more first later grew below in omega (arith, here, rest)
]

-- dispatches of the objects and firings of the rules
abbrev room : Draft → Policy → Log → ℕ
room basin policy log =
    left basin.control.object_limit (dispatches log) (length basin.objects) + left basin.control.rule_limit (firings log) policy.rules

counted : (a o n : ℕ) → n ≤ count_if (a == o) n
counted a o n = by_test (a == o)
  where
    by_test : (test : Bool) → n ≤ count_if test n
    by_test true = omega arith
    by_test false = omega arith

counted_here : (a n : ℕ) → n < count_if (a == a) n
counted_here a n = let own : (a == a) ≡ true = grind (arith, nat_tests) in rw own (omega arith)

-- ---- the event of a dispatch

-- a dispatch of the object at the timestep that ends in no fault
abbrev IsAsked : ℕ → ℕ → Event → Type 0
IsAsked o step (idle other at looked) = (other ≡ o) × (at ≡ step)
IsAsked o step (solved dispatch) = (dispatch.object ≡ o) × (dispatch.step ≡ step)
IsAsked o step event = ⊥

or_fault_asked : (values : Option (ℤ × ℤ)) (o step : ℕ) (put : Asked) (rest : Event) → IsFault rest ⊎ IsAsked o step rest
    → IsFault (or_fault values o put rest) ⊎ IsAsked o step (or_fault values o put rest)
or_fault_asked None o step put rest h = h
or_fault_asked (Some values) o step put rest h = inl tt

judged_asked : (cells : Cells) (o step : ℕ) (puts : List Asked) (rest : Event) → IsFault rest ⊎ IsAsked o step rest
    → IsFault (judged cells o puts rest) ⊎ IsAsked o step (judged cells o puts rest)
judged_asked cells o step [] rest h = h
judged_asked cells o step (put ∷ puts) rest h =
    or_fault_asked (denied_by (end_in cells put) put) o step put (judged cells o puts rest) (judged_asked cells o step puts rest h)

answered_asked : (basin : Draft) (cells : Cells) (looked : List Look) (o step : ℕ) (answer : Solved)
    → IsFault (answered basin cells looked o step answer) ⊎ IsAsked o step (answered basin cells looked o step answer)
answered_asked basin cells looked o step Idle = inr (refl, refl)
answered_asked basin cells looked o step (Puts puts) =
    judged_asked cells o step (map (asked_by basin o step) puts) (dispatch_of cells looked o step (map (asked_by basin o step) puts))
    (inr (refl, refl))
answered_asked basin cells looked o step (Conflict place held solves) = inl tt
answered_asked basin cells looked o step (OutOfRange place value) = inl tt

-- ---- what an event of a timestep leads to

-- it ends the run, or closes the timestep, or leaves less room in it
abbrev Outcome : Draft → Policy → ℕ → Log → Event → Type 0
Outcome basin policy step log event =
    IsFault event ⊎ ((event ≡ closed step) ⊎ ((standing (event ∷ log) ≡ inside step) × (room basin policy (event ∷ log) < room basin policy log)))

record Follows (basin : Draft) (policy : Policy) (step : ℕ) (log : Log) : Type 0 where
  event : Event
  is : next basin policy step log ≡ Some event
  leads_to : Outcome basin policy step log event

module _ (basin : Draft) (policy : Policy) (step : ℕ) (log : Log) where
  after_asked : (o : ℕ) (event : Event) → 1 ≤ o → o ≤ length basin.objects → dispatches log o < basin.control.object_limit → IsAsked o step event
      → Outcome basin policy step log event
  after_asked o (idle other at looked) first last below is =
      let falls = left_falls basin.control.object_limit (dispatches log) (λ k. count_if (other == k) (dispatches log k)) (length basin.objects) o
      (λ k. counted other k (dispatches log k)) first last
      (subst (λ z. dispatches log o < count_if (z == o) (dispatches log o)) (sym is.0) (counted_here o (dispatches log o))) below in
      inr (inr (ap inside is.1, omega (arith, falls)))
  after_asked o (solved dispatch) first last below is =
      let falls =
      left_falls basin.control.object_limit (dispatches log) (λ k. count_if (dispatch.object == k) (dispatches log k)) (length basin.objects) o
      (λ k. counted dispatch.object k (dispatches log k)) first last
      (subst (λ z. dispatches log o < count_if (z == o) (dispatches log o)) (sym is.0) (counted_here o (dispatches log o))) below in
      inr (inr (ap inside is.1, omega (arith, falls)))
  after_asked o event first last below is = absurd is

  -- an object that waits is dispatched
  asked_outcome : (o : ℕ) (reached : Bool) → nat_le basin.control.object_limit (dispatches log o) ≡ reached → 1 ≤ o → o ≤ length basin.objects
      → Outcome basin policy step log
      (if reached then fault (ObjectLimit (record { 0 = o }) (record { 0 = step }) (dispatches log o)) else dispatched basin
      (cells_of basin log) o step)
  asked_outcome o true is first last = inl tt
  asked_outcome o false is first last =
      let cells = cells_of basin log in
      elim (answered_asked basin cells (looks_at cells (looked_cells basin o step)) o step (solved_by basin cells o step)) [
        | inl faulted ↦ inl faulted
        | inr done ↦ after_asked o (dispatched basin cells o step) first last (grind (arith, nat_tests, is)) done
      ]

  -- a rule fires
  fired_outcome : (rule : ℕ) (fire : Fire) (end : FireEnd) → IsRule policy rule → firings log rule < basin.control.rule_limit
      → Outcome basin policy step log (ended basin (cells_of basin log) rule step fire end)
  fired_outcome rule fire DividesByZero is below = inl tt
  fired_outcome rule fire (EndsOutside value) is below = inl tt
  fired_outcome rule fire Unknown is below =
      let falls = left_falls basin.control.rule_limit (firings log) (λ k. count_if (rule == k) (firings log k)) policy.rules rule
      (λ k. counted rule k (firings log k)) is.first is.last (counted_here rule (firings log rule)) below in inr (inr (refl, omega (arith, falls)))
  fired_outcome rule fire Done is below =
      let falls = left_falls basin.control.rule_limit (firings log) (λ k. count_if (rule == k) (firings log k)) policy.rules rule
      (λ k. counted rule k (firings log k)) is.first is.last (counted_here rule (firings log rule)) below in inr (inr (refl, omega (arith, falls)))

  record FollowsObjects (due : Option ℕ) : Type 0 where
    event : Event
    is : after_objects basin policy (cells_of basin log) log step due ≡ Some event
    leads_to : Outcome basin policy step log event

  fires : (rule : ℕ) (found : Option Fire) → policy.fire rule step (value_in (cells_of basin log)) ≡ found → IsSome found → IsRule policy rule
      → (reached : Bool) → nat_le basin.control.rule_limit (firings log rule) ≡ reached → FollowsObjects (Some rule)
  fires rule None by some is reached test = absurd (cc)
  fires rule (Some fire) by some is true test = record {
    event = fault (RuleLimit (record { 0 = rule }) (record { 0 = step }) (firings log rule));
    is =
        ap (λ t. if t then Some (fault (RuleLimit (record { 0 = rule }) (record { 0 = step }) (firings log rule))) else firing_of basin policy
        (cells_of basin log) rule step) test;
    leads_to = inl tt;
  }
  fires rule (Some fire) by some is false test = record {
    event = ended basin (cells_of basin log) rule step fire fire.end;
    is =
        ap (λ t. if t then Some (fault (RuleLimit (record { 0 = rule }) (record { 0 = step }) (firings log rule))) else firing_of basin policy
        (cells_of basin log) rule step) test
        ∙ ap (option_map (λ (z : Fire). ended basin (cells_of basin log) rule step z z.end)) by;
    leads_to = fired_outcome rule fire fire.end is (grind (arith, nat_tests, test));
  }

  after_outcome : IsPolicyOf basin policy → (due : Option ℕ) → first_due basin policy (cells_of basin log) log ≡ due → FollowsObjects due
  after_outcome promise None is = record { event = closed step; is = refl; leads_to = inr (inl refl) }
  after_outcome promise (Some rule) is =
      let rule_is = due_is_rule basin policy (cells_of basin log) log rule is in
      fires rule (policy.fire rule step (value_in (cells_of basin log))) refl (promise.ends rule step (value_in (cells_of basin log)) rule_is) rule_is
      (nat_le basin.control.rule_limit (firings log rule)) refl

  -- an object that waits is one of the basin
  times_first : (o : ℕ) (waits : List ℕ) → first_of waits ≡ Some o → 0 < times o waits
  times_first o [] is = absurd (none-some _ is)
  times_first o (x ∷ rest) is = let same : x ≡ o = same_Some _ _ is in grind (arith, nat_tests)

  some_of : (t : Bool) (n : ℕ) → 0 < cond t n 0 → 0 < n
  some_of true n h = h
  some_of false n h = absurd (omega (arith, h))

  first_is : (o : ℕ) → first_waiting basin log ≡ Some o → (1 ≤ o) × (o ≤ length basin.objects)
  first_is o is =
      let there =
      some_of (is_some (since basin log o)) (times o (numbers (length basin.objects)))
      (subst (λ n. 0 < n) (times-waiting basin log o) (times_first o (waiting basin log) is)) in
      let count = times-numbers o (length basin.objects) in
      (grind (arith, nat_tests, there, count), grind (arith, nat_tests, there, count))

  event_follows : IsPolicyOf basin policy → (object : Option ℕ) → first_waiting basin log ≡ object → Follows basin policy step log
  event_follows promise None is =
      let after = after_outcome promise (first_due basin policy (cells_of basin log) log) refl in
      record { event = after.event; is = ap (next_of basin policy (cells_of basin log) log step) is ∙ after.is; leads_to = after.leads_to }
  event_follows promise (Some o) is =
      let inside_basin = first_is o is in record {
        event = asked_next basin (cells_of basin log) log step o;
        is = ap (next_of basin policy (cells_of basin log) log step) is;
        leads_to = asked_outcome o (nat_le basin.control.object_limit (dispatches log o)) refl inside_basin.0 inside_basin.1;
      }

-- ---- the run from a log on

record Ends (basin : Draft) (policy : Policy) (old : Log) : Type 0 where
  events : List Event
  log : Log
  leads : Leads basin policy old events log
  end : IsOver basin (standing log)

fault_ends : (basin : Draft) (event : Event) (log : Log) → IsFault event → IsOver basin (standing (event ∷ log))
fault_ends basin (fault why) log is = tt
fault_ends basin event log is = absurd is

goes_on : (basin : Draft) (policy : Policy) (log : Log) (event : Event) → follows basin policy log ≡ Some event → Ends basin policy (event ∷ log)
    → Ends basin policy log
goes_on basin policy log event is rest =
    record { events = event ∷ rest.events; log = rest.log; leads = (is, rest.leads); end = rest.end }

within_on : (basin : Draft) (policy : Policy) (step n : ℕ) (log : Log) → IsPolicyOf basin policy → standing log ≡ inside step
    → room basin policy log < n
    → ((later : Log) → standing later ≡ rests step → Ends basin policy later) → Ends basin policy log
within_on basin policy step zero log promise at small after = absurd (omega (arith, small))
within_on basin policy step (suc n) log promise at small after =
    let found = event_follows basin policy step log promise (first_waiting basin log) refl in
    let is : follows basin policy log ≡ Some found.event = ap (follows_in basin policy log) at ∙ found.is in
    goes_on basin policy log found.event is (elim found.leads_to [
      | inl faulted ↦ record { events = []; log = found.event ∷ log; leads = refl; end = fault_ends basin found.event log faulted }
      | inr going ↦ elim going [
        | inl closes ↦ after (found.event ∷ log) (ap (λ event. standing (event ∷ log)) closes)
        | inr stays ↦ within_on basin policy step n (found.event ∷ log) promise stays.0 (let falls = stays.1 in omega (arith, falls, small)) after
      ]
    ])

opens_next : (basin : Draft) (policy : Policy) (step : ℕ) (log : Log) → standing log ≡ rests step → step < basin.control.stamps.count
    → follows basin policy log ≡ Some (opened (step + 1))
opens_next basin policy step log at near =
    let more : nat_lt step basin.control.stamps.count ≡ true = grind (arith, nat_tests, near) in
    ap (follows_in basin policy log) at ∙ ap (λ t. if t then Some (opened (step + 1)) else None) more

rests_on : (basin : Draft) (policy : Policy) (steps step : ℕ) (log : Log) → IsPolicyOf basin policy → standing log ≡ rests step
    → step + steps ≡ basin.control.stamps.count → Ends basin policy log
rests_on basin policy zero step log promise at all =
    record { events = []; log = log; leads = refl; end = subst (IsOver basin) (sym at) (omega (arith, all)) }
rests_on basin policy (suc steps) step log promise at all =
    goes_on basin policy log (opened (step + 1)) (opens_next basin policy step log at (omega (arith, all)))
    (within_on basin policy (step + 1) (suc (room basin policy (opened (step + 1) ∷ log))) (opened (step + 1) ∷ log) promise refl (omega arith)
    (λ later rest. rests_on basin policy steps (step + 1) later promise rest (omega (arith, all))))

pub standing-placed : (log : Log) (inputs : List (Cell × ℤ)) → standing log ≡ rests 0 → standing (with_inputs log inputs) ≡ rests 0
standing-placed log [] at = at
standing-placed log (input ∷ inputs) at = standing-placed (placed input.0 input.1 ∷ log) inputs refl

pub some_run : (basin : Draft) (policy : Policy) (inputs : List (Cell × ℤ)) → IsPolicyOf basin policy → (log : Log) × IsRun basin policy inputs log
some_run basin policy inputs promise =
    let run = rests_on basin policy basin.control.stamps.count 0 (with_inputs [] inputs) promise (standing-placed [] inputs refl) (omega arith) in
    (run.log, record { events = run.events; leads = run.leads; end = run.end })

-- no rule promises everything
pub none_promises : (basin : Draft) → IsPolicyOf basin no_rules
none_promises basin = record {
  ends = λ rule step values is. absurd (let first = is.first in let last = is.last in omega (arith, first, last));
  framed = λ rule step one other fire is alike. absurd (none-some _ is);
  silent = λ rule step values fire is late. absurd (none-some _ is);
  asks = λ rule step values fire is. absurd (none-some _ is);
}
