-- A timestep that is reused goes in the later run as it went in the earlier one.
use Rattle.rw_base.proofs.Common.{◌≡◌, ◌<◌, ◌≤◌, ◌+◌, ◌==◌, ℕ, zero, suc, ℤ, Bool, true, false, false≢true, List, [], ◌∷◌, ◌++◌, Contains, Option}
use Rattle.rw_base.proofs.Common.{Some, None, IsSome, refl, sym, ap, subst, ◌∙◌, arith, inl, inr, ◌⊎◌, if◌then◌else◌, nat_tests, same_Some, none-some}
use Rattle.rw_base.proofs.Common.{append_assoc}
use Rattle.rw_base.specs.declared.number.Cell.{Cell}
use Rattle.rw_run.proofs.Passings.{leads_after, own_number}
use Rattle.rw_model.specs.Draft.{Draft}
use Rattle.rw_run.specs.Frame.{AreAlike, IsFramed, IsStepFrom, log_after, looked_in}
use Rattle.rw_run.specs.Log.{Cells, Event, Log, cells_of, placed, opened, closed, idle, solved, fired, fault}
use Rattle.rw_run.specs.Next.{Policy}
use Rattle.rw_run.specs.Reuse.{IsHeldAlike, IsReused}
use Rattle.rw_run.specs.Runs.{IsRun, Leads, Standing, follows, with_inputs, rests, inside, over, standing}
use Rattle.rw_run.specs.Step.{before_newest, before_closing, before_opening, events_of, is_closing, is_of_step, is_opening, looked_at, reached_by}
use Rattle.rw_run.specs.Waiting.{first_waiting}
use Rattle.rw_run.proofs.Agains.{AllAlike, AreAll, alike_each, alike_events}
use Rattle.rw_run.proofs.OneRun.{none_follows}
use Rattle.rw_run.proofs.Reuses.{reuse}
use Rattle.rw_run.proofs.StepEvents.{IsAfter, IsWithin, is_after, of_its_own, of_no_other, opened_of_no_other, opens_nothing, within_opens_nothing}

-- ---- logs in which each event is an input, or follows

abbrev AreGiven : Log → Type 0
AreGiven [] = Unit {0}
AreGiven (placed cell value ∷ log) = AreGiven log
AreGiven (event ∷ log) = ⊥

given_below : (newer log : Log) → AreGiven (newer ++ log) → AreGiven log
given_below [] log all = all
given_below (placed cell value ∷ newer) log all = given_below newer log all
given_below (event ∷ newer) log all = absurd all

placed_given : (log : Log) (inputs : List (Cell × ℤ)) → AreGiven log → AreGiven (with_inputs log inputs)
placed_given log [] all = all
placed_given log (input ∷ inputs) all = placed_given (placed input.0 input.1 ∷ log) inputs all

-- no event is of a timestep behind this one
abbrev IsUpTo : ℕ → Log → Type 0
IsUpTo last [] = Unit {0}
IsUpTo last (event ∷ log) = ((step : ℕ) → last < step → is_of_step step event ≡ false) × IsUpTo last log

given_up_to : (last : ℕ) (log : Log) → AreGiven log → IsUpTo last log
given_up_to last [] all = tt
given_up_to last (placed cell value ∷ log) all = (λ step less. refl, given_up_to last log all)
given_up_to last (event ∷ log) all = absurd all

weaker : (less last : ℕ) (log : Log) → less ≤ last → IsUpTo less log → IsUpTo last log
weaker less last [] most up = tt
weaker less last (event ∷ log) most up = (λ step far. up.0 step (omega (arith, most, far)), weaker less last log most up.1)

none_of : (last step : ℕ) (log : Log) → IsUpTo last log → last < step → events_of step log ≡ []
none_of last step [] up less = refl
none_of last step (event ∷ log) up less =
    ap (λ (t : Bool). if t then event ∷ events_of step log else events_of step log) (up.0 step less) ∙ none_of last step log up.1 less

-- the log stands at this timestep
abbrev IsAt : ℕ → Standing → Type 0
IsAt step (rests other) = other ≡ step
IsAt step (inside other) = other ≡ step
IsAt step over = ⊥

-- or behind it
abbrev IsPast : ℕ → Standing → Type 0
IsPast step (rests other) = step ≤ other
IsPast step (inside other) = step < other
IsPast step over = Unit {0}

within_at : (step other : ℕ) (event : Event) (log : Log) → IsWithin step event → IsAt other (standing (event ∷ log)) → step ≡ other
within_at step other (closed k) log is at = sym is ∙ at
within_at step other (idle object k looked) log is at = sym is ∙ at
within_at step other (solved dispatch) log is at = sym is ∙ at
within_at step other (fired firing) log is at = sym is ∙ at
within_at step other (fault why) log is at = absurd at
within_at step other event log is at = absurd is

within_past : (step other : ℕ) (event : Event) (log : Log) → IsWithin step event → other < step → IsPast other (standing (event ∷ log))
within_past step other (closed k) log is past = omega (arith, is, past)
within_past step other (idle object k looked) log is past = omega (arith, is, past)
within_past step other (solved dispatch) log is past = omega (arith, is, past)
within_past step other (fired firing) log is past = omega (arith, is, past)
within_past step other (fault why) log is past = tt
within_past step other event log is past = absurd is

-- the test is met by no event of them
abbrev HasNone : ℕ → Log → Type 0
HasNone step [] = Unit {0}
HasNone step (event ∷ log) = (is_of_step step event ≡ false) × HasNone step log

none_among : (step : ℕ) (newer log : Log) → HasNone step newer → events_of step (newer ++ log) ≡ events_of step log
none_among step [] log none = refl
none_among step (event ∷ newer) log none =
    ap (λ (t : Bool). if t then event ∷ events_of step (newer ++ log) else events_of step (newer ++ log)) none.0 ∙ none_among step newer log none.1

not_opened : (step : ℕ) (newer log : Log) → HasNone step newer → before_opening step (newer ++ log) ≡ before_opening step log
not_opened step [] log none = refl
not_opened step (event ∷ newer) log none =
    ap (λ (t : Bool). if t then Some (newer ++ log) else before_opening step (newer ++ log)) (opens_nothing step event none.0)
    ∙ not_opened step newer log none.1

-- the log has an event that passes the test, and this before it
record Parts (test : Event → Bool) (log old : Log) : Type 0 where
  newer : Log
  event : Event
  whole : log ≡ newer ++ event ∷ old
  passes : test event ≡ true

parts : (test : Event → Bool) (log old : Log) → before_newest test log ≡ Some old → Parts test log old
parts test [] old is = absurd (none-some _ is)
parts test (event ∷ log) old is = by (test event) refl (λ later. parts test log old later) is
  where
    by : (passed : Bool) → test event ≡ passed → (before_newest test log ≡ Some old → Parts test log old)
        → (if passed then Some log else before_newest test log) ≡ Some old → Parts test (event ∷ log) old
    by true passed below is = record { newer = []; event = event; whole = ap (λ rest. event ∷ rest) (same_Some log old is); passes = passed }
    by false passed below is =
        let rest = below is in
        record { newer = event ∷ rest.newer; event = rest.event; whole = ap (λ more. event ∷ more) rest.whole; passes = rest.passes }

opening_is : (step : ℕ) (event : Event) → is_opening step event ≡ true → event ≡ opened step
opening_is step (opened other) is = let same : other ≡ step = grind (arith, nat_tests, is) in ap opened same
opening_is step event is = absurd (grind (arith, is))

closing_is : (step : ℕ) (event : Event) → is_closing step event ≡ true → event ≡ closed step
closing_is step (closed other) is = let same : other ≡ step = grind (arith, nat_tests, is) in ap closed same
closing_is step event is = absurd (grind (arith, is))

events_after : (step : ℕ) (events : List Event) (one other : Log) → events_of step one ≡ events_of step other
    → events_of step (log_after events one) ≡ events_of step (log_after events other)
events_after step [] one other same = same
events_after step (event ∷ events) one other same =
    events_after step events (event ∷ one) (event ∷ other) (ap (λ rest. if is_of_step step event then event ∷ rest else rest) same)

log_after_more : (events : List Event) (event : Event) (log : Log) → log_after (events ++ event ∷ []) log ≡ event ∷ log_after events log
log_after_more [] event log = refl
log_after_more (first ∷ events) event log = log_after_more events event (first ∷ log)

all_more : (P : Event → Type 0) (events : List Event) (event : Event) → AreAll P events → P event → AreAll P (events ++ event ∷ [])
all_more P [] event all is = (is, tt)
all_more P (first ∷ events) event all is = (all.0, all_more P events event all.1 is)

-- the timestep is open behind the event
abbrev IsInside : ℕ → Event → Type 0
IsInside step event = standing (event ∷ []) ≡ inside step

stands_in : (event : Event) (log : Log) (step : ℕ) → standing (event ∷ log) ≡ inside step → IsInside step event
stands_in (placed cell value) log step is = is
stands_in event log step is = is

within_inside : (last step : ℕ) (event : Event) (log : Log) → IsWithin last event → standing (event ∷ log) ≡ inside step → last ≡ step
within_inside last step event log is at = within_at last step event log is (subst (IsAt step) (sym at) refl)

step_from : (step : ℕ) (event : Event) (events : List Event) → IsInside step event → AreAll (IsInside step) events
    → IsStepFrom step event (events ++ closed step ∷ [])
step_from step event [] is all = (is, refl)
step_from step event (next ∷ events) is all = (is, step_from step next events all.0 all.1)

abbrev IsResting : Standing → Type 0
IsResting (rests step) = Unit {0}
IsResting (inside step) = ⊥
IsResting over = ⊥

given_rests : (log : Log) (step : ℕ) → AreGiven log → standing log ≡ inside step → ⊥
given_rests [] step all at = subst IsResting at tt
given_rests (placed cell value ∷ log) step all at = subst IsResting at tt
given_rests (event ∷ log) step all at = absurd all

abbrev IsClosing : Event → Type 0
IsClosing (closed step) = Unit {0}
IsClosing event = ⊥

abbrev step_opened : Event → ℕ
step_opened (opened step) = step
step_opened event = 0

own_closing : (step : ℕ) (log : Log) → events_of step (closed step ∷ log) ≡ closed step ∷ events_of step log
own_closing step log = ap (λ (t : Bool). if t then closed step ∷ events_of step log else events_of step log) (own_number step)

module _ (basin : Draft) (policy : Policy) where
  abbrev IsLed : Log → Type 0
  IsLed [] = Unit {0}
  IsLed (event ∷ log) = AreGiven (event ∷ log) ⊎ ((follows basin policy log ≡ Some event) × IsLed log)

  led_given : (log : Log) → AreGiven log → IsLed log
  led_given [] all = tt
  led_given (event ∷ log) all = inl all

  led_leads : (old : Log) (events : List Event) (new : Log) → IsLed old → Leads basin policy old events new → IsLed new
  led_leads old [] new led leads = subst IsLed (sym leads) led
  led_leads old (event ∷ events) new led leads = led_leads (event ∷ old) events new (inr (leads.0, led)) leads.1

  led_run : (inputs : List (Cell × ℤ)) (log : Log) → IsRun basin policy inputs log → IsLed log
  led_run inputs log run = led_leads (with_inputs [] inputs) run.events log (led_given (with_inputs [] inputs) (placed_given [] inputs tt)) run.leads

  led_up_to : (log : Log) (step : ℕ) → IsLed log → IsAt step (standing log) → IsUpTo step log
  led_up_to [] step led at = tt
  led_up_to (event ∷ log) step (inl all) at = given_up_to step (event ∷ log) all
  led_up_to (event ∷ log) step (inr led) at =
      by (λ last stands. led_up_to log last led.1 stands) (standing log) refl (is_after basin policy log event (standing log) led.0)
    where
      by : ((last : ℕ) → IsAt last (standing log) → IsUpTo last log) → (stands : Standing) → standing log ≡ stands → IsAfter stands event
          → IsUpTo step (event ∷ log)
      by below (rests last) is after =
          let next_one : last + 1 ≡ step = subst (λ e. IsAt step (standing (e ∷ log))) after at in (
            λ later far. subst (λ e. is_of_step later e ≡ false) (sym after) (opened_of_no_other (last + 1) later (omega (arith, next_one, far))),
            weaker last step log (omega (arith, next_one)) (below last (subst (IsAt last) (sym is) refl)),
          )
      by below (inside last) is after =
          let same : last ≡ step = within_at last step event log after at in (
            λ later far. of_no_other last later event after (omega (arith, same, far)),
            subst (λ k. IsUpTo k log) same (below last (subst (IsAt last) (sym is) refl)),
          )
      by below over is after = absurd after

  -- what comes behind a closed timestep is of later ones
  led_past : (newer log : Log) (step : ℕ) → IsLed (newer ++ closed step ∷ log)
      → IsPast step (standing (newer ++ closed step ∷ log)) × HasNone step newer
  led_past [] log step led = (omega arith, tt)
  led_past (event ∷ newer) log step (inl all) = absurd (given_below (event ∷ newer) (closed step ∷ log) all)
  led_past (event ∷ newer) log step (inr led) =
      let below = led_past newer log step led.1 in
      let there : Log = newer ++ closed step ∷ log in
      by there below.0 below.1 (standing there) refl (is_after basin policy there event (standing there) led.0)
    where
      by : (there : Log) → IsPast step (standing there) → HasNone step newer → (stands : Standing) → standing there ≡ stands → IsAfter stands event
          → IsPast step (standing (event ∷ there)) × HasNone step (event ∷ newer)
      by there past none (rests last) is after =
          let far : step ≤ last = subst (IsPast step) is past in (
            subst (λ e. IsPast step (standing (e ∷ there))) (sym after) (omega (arith, far)),
            (subst (λ e. is_of_step step e ≡ false) (sym after) (opened_of_no_other (last + 1) step (omega (arith, far))), none),
          )
      by there past none (inside last) is after =
          let far : step < last = subst (IsPast step) is past in
          (within_past last step event there after far, (of_no_other last step event after (omega (arith, far)), none))
      by there past none over is after = absurd after

  -- an event that is no input follows what stands before it
  led_below : (newer : Log) (event : Event) (log : Log) → ¬ AreGiven (event ∷ log) → IsLed (newer ++ event ∷ log)
      → (follows basin policy log ≡ Some event) × IsLed log
  led_below [] event log some (inl all) = absurd (some all)
  led_below [] event log some (inr led) = led
  led_below (first ∷ newer) event log some (inl all) = absurd (some (given_below (first ∷ newer) (event ∷ log) all))
  led_below (first ∷ newer) event log some (inr led) = led_below newer event log some led.1

  leads_more : (old : Log) (events : List Event) (event : Event) (new : Log) → Leads basin policy old events new
      → follows basin policy new ≡ Some event
      → Leads basin policy old (events ++ event ∷ []) (event ∷ new)
  leads_more old [] event new leads is = (ap (follows basin policy) (sym leads) ∙ is, ap (λ log. event ∷ log) leads)
  leads_more old (first ∷ events) event new leads is = (leads.0, leads_more (first ∷ old) events event new leads.1 is)

  led_from : (newer : Log) (event : Event) (log : Log) → ¬ AreGiven (event ∷ log) → IsLed (newer ++ event ∷ log)
      → (events : List Event) × Leads basin policy (event ∷ log) events (newer ++ event ∷ log)
  led_from [] event log some led = ([], refl)
  led_from (first ∷ newer) event log some (inl all) = absurd (some (given_below (first ∷ newer) (event ∷ log) all))
  led_from (first ∷ newer) event log some (inr led) =
      let rest = led_from newer event log some led.1 in
      (rest.0 ++ first ∷ [], leads_more (event ∷ log) rest.0 first (newer ++ event ∷ log) rest.1 led.0)

  grown : (old : Log) (events : List Event) (new : Log) → Leads basin policy old events new → (newer : Log) × (new ≡ newer ++ old)
  grown old [] new leads = ([], leads)
  grown old (event ∷ events) new leads =
      let rest = grown (event ∷ old) events new leads.1 in
      (rest.0 ++ event ∷ [], rest.1 ∙ sym (append_assoc rest.0 (event ∷ []) old))

  -- a run that is over goes by whatever events lead on from it
  passes_by : (old : Log) (events all : List Event) (mid end : Log) → Leads basin policy old events mid → Leads basin policy old all end
      → follows basin policy end ≡ None → (newer : Log) × (end ≡ newer ++ mid)
  passes_by old [] all mid end some whole none =
      let rest = grown old all end whole in (rest.0, rest.1 ∙ ap (λ log. rest.0 ++ log) (sym some))
  passes_by old (event ∷ events) [] mid end some whole none =
      absurd (none-some _ (sym none ∙ ap (follows basin policy) whole ∙ some.0))
  passes_by old (event ∷ events) (first ∷ all) mid end some whole none =
      let same : first ≡ event = same_Some _ _ (sym whole.0 ∙ some.0) in
      passes_by (event ∷ old) events all mid end some.1 (subst (λ e. Leads basin policy (e ∷ old) all end) same whole.1) none

  -- ---- an open timestep, from its opening on

  record IsOpen (step : ℕ) (log : Log) : Type 1 where
    old : Log
    events : List Event
    leads : Leads basin policy (opened step ∷ old) events log
    stays : AreAll (IsInside step) events
    led : IsLed (opened step ∷ old)
    newest : before_opening step log ≡ Some old
    own : (P : Event → Type 0) → AreAll P (events_of step log) → AreAll P events

  opens : (step : ℕ) (log : Log) → IsLed log → standing log ≡ inside step → IsOpen step log
  opens step [] led at = absurd (subst IsResting at tt)
  opens step (event ∷ log) (inl all) at = absurd (given_rests (event ∷ log) step all at)
  opens step (event ∷ log) (inr led) at =
      by (λ stands. opens step log led.1 stands) (standing log) refl (is_after basin policy log event (standing log) led.0)
    where
      by : (standing log ≡ inside step → IsOpen step log) → (stands : Standing) → standing log ≡ stands → IsAfter stands event
          → IsOpen step (event ∷ log)
      by earlier (rests last) is after =
          let same : last + 1 ≡ step = subst (IsAt step) (sym (ap (λ e. standing (e ∷ log)) (sym after) ∙ at)) refl in
          let opening : event ≡ opened step = after ∙ ap opened same in
          subst (λ e. IsOpen step (e ∷ log)) (sym opening) (record {
            old = log;
            events = [];
            leads = refl;
            stays = tt;
            led = inr (led.0 ∙ ap Some opening, led.1);
            newest = ap (λ (t : Bool). if t then Some log else before_opening step log) (own_number step);
            own = λ P all. tt;
          })
      by earlier (inside last) is after =
          let same : last ≡ step = within_inside last step event log after at in
          let own_one : IsWithin step event = subst (λ k. IsWithin k event) same after in
          let below = earlier (is ∙ ap inside same) in record {
            old = below.old;
            events = below.events ++ event ∷ [];
            leads = leads_more (opened step ∷ below.old) below.events event log below.leads led.0;
            stays = all_more (IsInside step) below.events event below.stays (stands_in event log step at);
            led = below.led;
            newest = ap (λ (t : Bool). if t then Some log else before_opening step log) (within_opens_nothing step step event own_one) ∙ below.newest;
            own = λ P all.
                let both =
                subst (AreAll P) (ap (λ (t : Bool). if t then event ∷ events_of step log else events_of step log)
                (of_its_own step event own_one)) all in
                all_more P below.events event (below.own P both.1) both.0;
          }
      by earlier over is after = absurd after

  -- ---- a closed timestep

  record IsClosed (step : ℕ) (log : Log) : Type 1 where
    newer : Log
    before_it : Log
    whole : log ≡ newer ++ closed step ∷ before_it
    none : HasNone step newer
    is : follows basin policy before_it ≡ Some (closed step)
    timestep : IsOpen step before_it

  closes : (step : ℕ) (log : Log) → IsLed log → IsSome (before_closing step log) → IsClosed step log
  closes step log led some = by (before_closing step log) refl some
    where
      stands : (before_it : Log) (at : Standing) → standing before_it ≡ at → IsAfter at (closed step) → standing before_it ≡ inside step
      stands before_it (rests last) is after = absurd (subst IsClosing after tt)
      stands before_it (inside last) is after = is ∙ ap inside (sym after)
      stands before_it over is after = absurd after

      by : (found : Option Log) → before_closing step log ≡ found → IsSome found → IsClosed step log
      by None is there = absurd (false≢true there)
      by (Some before_it) is there =
          let p = parts (is_closing step) log before_it is in
          let whole : log ≡ p.newer ++ closed step ∷ before_it = p.whole ∙ ap (λ e. p.newer ++ e ∷ before_it) (closing_is step p.event p.passes) in
          let all : IsLed (p.newer ++ closed step ∷ before_it) = subst IsLed whole led in
          let here = led_below p.newer (closed step) before_it (λ placed. placed) all in record {
            newer = p.newer;
            before_it = before_it;
            whole = whole;
            none = (led_past p.newer before_it step all).1;
            is = here.0;
            timestep = opens step before_it here.1
                (stands before_it (standing before_it) refl (is_after basin policy before_it (closed step) (standing before_it) here.0));
          }

  -- before its opening there are none of its events
  none_before : (step : ℕ) (log : Log) → follows basin policy log ≡ Some (opened step) → IsLed log → events_of step log ≡ []
  none_before step log is led = by (standing log) refl (is_after basin policy log (opened step) (standing log) is)
    where
      by : (stands : Standing) → standing log ≡ stands → IsAfter stands (opened step) → events_of step log ≡ []
      by (rests last) at after =
          let next_one : step ≡ last + 1 = ap step_opened after in
          none_of last step log (led_up_to log last led (subst (IsAt last) (sym at) refl)) (omega (arith, next_one))
      by (inside last) at after = absurd after
      by over at after = absurd after

  none_opened : (step : ℕ) (old : Log) → IsLed (opened step ∷ old) → events_of step old ≡ []
  none_opened step old (inl all) = absurd all
  none_opened step old (inr led) = none_before step old led.0 led.1

  -- its events lead on behind another log that rests there
  leads_again : (step : ℕ) (one other end : Log) (events : List Event) → IsFramed policy → AreAll (IsInside step) events
      → Leads basin policy (opened step ∷ one) (events ++ closed step ∷ []) end
      → AreAlike (cells_of basin one) (cells_of basin other) (looked_in (events ++ closed step ∷ []))
      → Leads basin policy (opened step ∷ other) (events ++ closed step ∷ []) (log_after (events ++ closed step ∷ []) (opened step ∷ other))
  leads_again step one other end [] framed stays leads alike = reuse basin policy step one other end (closed step) [] framed refl leads alike
  leads_again step one other end (event ∷ events) framed stays leads alike =
      reuse basin policy step one other end event (events ++ closed step ∷ []) framed (step_from step event events stays.0 stays.1) leads alike

pub alike_at : (one other : Cells) (cells : List Cell) → AreAlike one other cells → (cell : Cell) → Contains cells cell → one cell ≡ other cell
alike_at one other [] alike cell (k, less, same) = absurd (omega (arith, less))
alike_at one other (first ∷ cells) alike cell (zero, less, same) = subst (λ c. one c ≡ other c) same alike.0
alike_at one other (first ∷ cells) alike cell (suc k, less, same) = alike_at one other cells alike.1 cell (k, omega (arith, less), same)

pub held_alike : (basin : Draft) (policy : Policy) (inputs others : List (Cell × ℤ)) (earlier later : Log) (step : ℕ) → IsFramed policy
    → IsRun basin policy inputs earlier → IsRun basin policy others later → IsHeldAlike basin earlier later step
    → events_of step later ≡ events_of step earlier
held_alike basin policy inputs others earlier later step framed run_one run_other is =
    let c = closes basin policy step earlier (led_run basin policy inputs earlier run_one) is.closed in
    let o = c.timestep in
    let events : List Event = o.events ++ closed step ∷ [] in
    let one_own : events_of step earlier ≡ events_of step (closed step ∷ c.before_it) =
    ap (events_of step) c.whole ∙ none_among step c.newer (closed step ∷ c.before_it) c.none in
    let own_one : events_of step earlier ≡ closed step ∷ events_of step c.before_it = one_own ∙ own_closing step c.before_it in
    let same_one : is.one ≡ o.old =
    same_Some _ _ (sym is.one_is ∙ ap (before_opening step) c.whole ∙ not_opened step c.newer (closed step ∷ c.before_it) c.none ∙ o.newest) in
    let alike : AreAlike (cells_of basin o.old) (cells_of basin is.other) (looked_at basin step earlier) =
    subst (λ log. AreAlike (cells_of basin log) (cells_of basin is.other) (looked_at basin step earlier)) same_one is.alike in
    let P : Event → Type 0 = λ event. AllAlike basin (cells_of basin o.old) (cells_of basin is.other) (reached_by basin event) in
    let each : AreAll P (closed step ∷ events_of step c.before_it) =
    subst (AreAll P) own_one (alike_each basin (cells_of basin o.old) (cells_of basin is.other) (events_of step earlier)
    (alike_at (cells_of basin o.old) (cells_of basin is.other) (looked_at basin step earlier) alike)) in
    let looks : AreAlike (cells_of basin o.old) (cells_of basin is.other) (looked_in events) =
    alike_events basin (cells_of basin o.old) (cells_of basin is.other) events (all_more P o.events (closed step) (o.own P each.1) each.0) in
    let p = parts (is_opening step) later is.other is.other_is in
    let whole : later ≡ p.newer ++ opened step ∷ is.other = p.whole ∙ ap (λ e. p.newer ++ e ∷ is.other) (opening_is step p.event p.passes) in
    let led = led_run basin policy others later run_other in
    let all : IsLed basin policy (p.newer ++ opened step ∷ is.other) = subst (IsLed basin policy) whole led in
    let here = led_below basin policy p.newer (opened step) is.other (λ given. given) all in
    let onward = led_from basin policy p.newer (opened step) is.other (λ given. given) all in
    let leads = leads_again basin policy step o.old is.other _ o.events framed o.stays
    (leads_more basin policy (opened step ∷ o.old) o.events (closed step) c.before_it o.leads c.is) looks in
    let past = passes_by basin policy (opened step ∷ is.other) events onward.0 (log_after events (opened step ∷ is.other)) later leads
    (subst (Leads basin policy (opened step ∷ is.other) onward.0) (sym whole) onward.1)
    (none_follows basin policy later (first_waiting basin later) (standing later) run_other.end) in
    let closing : log_after events (opened step ∷ is.other) ≡ closed step ∷ log_after o.events (opened step ∷ is.other) =
    log_after_more o.events (closed step) (opened step ∷ is.other) in
    let there : later ≡ past.0 ++ closed step ∷ log_after o.events (opened step ∷ is.other) = past.1 ∙ ap (λ log. past.0 ++ log) closing in
    let none = (led_past basin policy past.0 (log_after o.events (opened step ∷ is.other)) step (subst (IsLed basin policy) there led)).1 in
    let from_one : events_of step o.old ≡ [] = none_opened basin policy step o.old o.led in
    let bases : events_of step (opened step ∷ is.other) ≡ events_of step (opened step ∷ o.old) =
    ap (λ rest. if step == step then opened step ∷ rest else rest) (none_before basin policy step is.other here.0 here.1 ∙ sym from_one) in
    let one_made : log_after events (opened step ∷ o.old) ≡ closed step ∷ c.before_it =
    log_after_more o.events (closed step) (opened step ∷ o.old)
    ∙ ap (λ log. closed step ∷ log) (sym (leads_after basin policy (opened step ∷ o.old) o.events c.before_it o.leads)) in
    let other_own : events_of step later ≡ events_of step (log_after events (opened step ∷ is.other)) =
    ap (events_of step) past.1 ∙ none_among step past.0 (log_after events (opened step ∷ is.other)) none in
    let both : events_of step (log_after events (opened step ∷ is.other)) ≡ events_of step (closed step ∷ c.before_it) =
    events_after step events (opened step ∷ is.other) (opened step ∷ o.old) bases ∙ ap (events_of step) one_made in
    other_own ∙ both ∙ sym one_own

pub reused : (basin : Draft) (policy : Policy) (inputs others : List (Cell × ℤ)) (earlier later : Log) (step : ℕ) → IsFramed policy
    → IsRun basin policy inputs earlier → IsRun basin policy others later → IsReused basin earlier later step
    → events_of step later ≡ events_of step earlier
reused basin policy inputs others earlier later step framed run_one run_other is =
    held_alike basin policy inputs others earlier later step framed run_one run_other
    (record { closed = is.closed; one = is.one; one_is = is.one_is; other = is.other; other_is = is.other_is; alike = is.alike })
