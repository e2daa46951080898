-- Each firing in a run of accepted code is one of verified code.
use Rattle.rw_base.proofs.Common.{◌≡◌, ◌∙◌, ℕ, ◌+◌, ℤ, Bool, true, false, nat_le, nat_lt, List, [], ◌∷◌, Option, Some, None, ap, refl, sym, subst}
use Rattle.rw_base.proofs.Common.{if◌then◌else◌, none-some, option_and_then, option_map, same_Some}
use Rattle.std.specs.Option.{ForSome}
use Rattle.rw_base.specs.declared.number.Cell.{Cell}
use Rattle.rw_model.proofs.Common.{Draft, numbered}
use Rattle.rw_method.specs.declared.solved.Solved.{Solved}
use Rattle.rw_method.specs.declared.solved.Solved.TheVariants.{Conflict, Idle, OutOfRange, Puts}
use Rattle.rw_firing.specs.Fire.{Fire}
use Rattle.rw_firing.specs.declared.fire.FireEnd.{FireEnd}
use Rattle.rw_firing.specs.declared.fire.FireEnd.TheVariants.{Done, OutOfRange as BeyondRange, Unknown, ZeroDivisor as DividesByZero}
use Rattle.rw_firing.specs.declared.look.Look.{Look}
use Rattle.rw_run.specs.declared.fault.RunFault.TheVariants.{ObjectLimit, RuleLimit}
use Rattle.rw_run.proofs.Common.{Asked, Cells, Event, Leads, Log, after_objects, answered, asked_for, cells_of, denied_by, dispatch_of, dispatched}
use Rattle.rw_run.proofs.Common.{dispatches, end_in, fault, first_due, first_waiting, follows_in, placed, inside, judged, looks_of, next_of, opened}
use Rattle.rw_run.proofs.Common.{or_fault, with_inputs, rests, solved_by, standing, value_in}
use Rattle.rw_run.specs.Next.{asked_next, ended, firing_of, firings}
use Rattle.rw_run.specs.Runs.{IsRun, Standing, over}
use Rattle.rpl_code.specs.declared.block.Block.{Block}
use Rattle.rpl_tree.proofs.Common.{Budget}
use Rattle.rpl_verify.specs.Machine.{begin, fire_of_code, fired, first_frame, rule_from}
use Rattle.rpl_verify.specs.Safety.{AreSafe}
use Rattle.rpl_policy.specs.Firings.{AreVerified, IsVerified, turn_in}
use Rattle.rpl_policy.specs.Policy.{policy_of_code}

-- ---- a rule that fires has a block

no_frame : (code : List Block) (rule : ℕ) → rule_from 1 code rule ≡ None → first_frame code rule ≡ None
no_frame code rule none = ap (option_and_then (λ n. option_map (λ x. begin n x []) (numbered code n))) none

pub has_block : (code : List Block) (basin : Draft) (rule step : ℕ) (values : Cell → Option ℤ) (fire : Fire)
    → fire_of_code code basin rule step values ≡ Some fire → (n : ℕ) × (rule_from 1 code rule ≡ Some n)
has_block code basin rule step values fire is = by (rule_from 1 code rule) refl
  where
    by : (o : Option ℕ) → rule_from 1 code rule ≡ o → (n : ℕ) × (rule_from 1 code rule ≡ Some n)
    by (Some n) found = (n, found)
    by None none =
        absurd (none-some fire
        (sym (ap (fired code (record { basin = basin; values = values; step = step })) (no_frame code rule none)) ∙ is))

-- ---- which events are firings

turn_of_end : (basin : Draft) (cells : Cells) (rule step : ℕ) (fire : Fire) (end : FireEnd)
    → turn_in (ended basin cells rule step fire end) ≡ Some (record { rule = rule; step = step })
turn_of_end basin cells rule step fire DividesByZero = refl
turn_of_end basin cells rule step fire (BeyondRange value) = refl
turn_of_end basin cells rule step fire Unknown = refl
turn_of_end basin cells rule step fire Done = refl

denied_none : (denied : Option (ℤ × ℤ)) (object : ℕ) (put : Asked) (rest : Event) → turn_in rest ≡ None
    → turn_in (or_fault denied object put rest) ≡ None
denied_none None object put rest none = none
denied_none (Some values) object put rest none = refl

judged_none : (cells : Cells) (object : ℕ) (puts : List Asked) (rest : Event) → turn_in rest ≡ None → turn_in (judged cells object puts rest) ≡ None
judged_none cells object [] rest none = none
judged_none cells object (put ∷ puts) rest none =
    denied_none (denied_by (end_in cells put) put) object put (judged cells object puts rest) (judged_none cells object puts rest none)

answered_none : (basin : Draft) (cells : Cells) (looked : List Look) (object step : ℕ) (solved : Solved)
    → turn_in (answered basin cells looked object step solved) ≡ None
answered_none basin cells looked object step Idle = refl
answered_none basin cells looked object step (Puts puts) =
    judged_none cells object (asked_for basin object step puts) (dispatch_of cells looked object step (asked_for basin object step puts)) refl
answered_none basin cells looked object step (Conflict place held solves) = refl
answered_none basin cells looked object step (OutOfRange place value) = refl

by_limit : (reached : Bool) (one other : Event) → turn_in one ≡ None → turn_in other ≡ None → turn_in (if reached then one else other) ≡ None
by_limit true one other h g = h
by_limit false one other h g = g

module _ (basin : Draft) (code : List Block) (budgets : List Budget) (safe : AreSafe basin code budgets) where
  abbrev Verified : Log → Event → Type 0
  Verified log event = ForSome (turn_in event) (λ turn. IsVerified basin code budgets log event turn)

  none_fires : (log : Log) (event : Event) → turn_in event ≡ None → Verified log event
  none_fires log event none turn is = absurd (none-some turn (sym none ∙ is))

  -- ---- a firing

  fires : (log : Log) (event : Event) (rule step : ℕ) (fire : Fire) → fire_of_code code basin rule step (value_in (cells_of basin log)) ≡ Some fire
      → ended basin (cells_of basin log) rule step fire fire.end ≡ event → Verified log event
  fires log event rule step fire does is turn turn_is =
      let block = has_block code basin rule step (value_in (cells_of basin log)) fire does in
      let own = safe rule block.0 step (value_in (cells_of basin log)) block.1 in
      let same_turn : record { rule = rule; step = step } ≡ turn =
      same_Some _ turn (sym (turn_of_end basin (cells_of basin log) rule step fire fire.end) ∙ ap turn_in is ∙ turn_is) in
      let same_fire : fire ≡ own.2.fire = same_Some fire own.2.fire (sym does ∙ own.2.fires) in
      let verified : IsVerified basin code budgets log event (record { rule = rule; step = step }) = record {
        block = block.0;
        stands = block.1;
        budget = own.0;
        is_budget = own.1;
        safe = own.2;
        is = sym is ∙ ap (λ (f : Fire). ended basin (cells_of basin log) rule step f f.end) same_fire;
      } in
      subst (λ t. IsVerified basin code budgets log event t) same_turn verified

  told : (log : Log) (event : Event) (rule step : ℕ) (found : Option Fire) → fire_of_code code basin rule step (value_in (cells_of basin log)) ≡ found
      → option_map (λ (fire : Fire). ended basin (cells_of basin log) rule step fire fire.end) found ≡ Some event → Verified log event
  told log event rule step None does is = absurd (none-some event is)
  told log event rule step (Some fire) does is = fires log event rule step fire does (same_Some _ event is)

  limited : (log : Log) (event : Event) (rule step : ℕ) (reached : Bool)
      → (if reached then Some (fault (RuleLimit (record { 0 = rule }) (record { 0 = step }) (firings log rule))) else firing_of basin
      (policy_of_code basin code) (cells_of basin log) rule step) ≡ Some event
      → Verified log event
  limited log event rule step true is = none_fires log event (ap turn_in (sym (same_Some _ event is)))
  limited log event rule step false is = told log event rule step (fire_of_code code basin rule step (value_in (cells_of basin log))) refl is

  ruled : (log : Log) (event : Event) (step : ℕ) (due : Option ℕ)
      → after_objects basin (policy_of_code basin code) (cells_of basin log) log step due ≡ Some event → Verified log event
  ruled log event step None is = none_fires log event (ap turn_in (sym (same_Some _ event is)))
  ruled log event step (Some rule) is = limited log event rule step (nat_le basin.control.rule_limit (firings log rule)) is

  -- ---- events, and logs

  dispatched_none : (log : Log) (object step : ℕ) → turn_in (asked_next basin (cells_of basin log) log step object) ≡ None
  dispatched_none log object step =
      by_limit (nat_le basin.control.object_limit (dispatches log object))
      (fault (ObjectLimit (record { 0 = object }) (record { 0 = step }) (dispatches log object)))
      (dispatched basin (cells_of basin log) object step) refl
      (answered_none basin (cells_of basin log) (looks_of basin (cells_of basin log) object step) object step
      (solved_by basin (cells_of basin log) object step))

  chosen : (log : Log) (event : Event) (step : ℕ) (object : Option ℕ)
      → next_of basin (policy_of_code basin code) (cells_of basin log) log step object ≡ Some event → Verified log event
  chosen log event step None is = ruled log event step (first_due basin (policy_of_code basin code) (cells_of basin log) log) is
  chosen log event step (Some object) is = none_fires log event (ap turn_in (sym (same_Some _ event is)) ∙ dispatched_none log object step)

  opens : (log : Log) (event : Event) (step : ℕ) (more : Bool) → (if more then Some (opened (step + 1)) else None) ≡ Some event → Verified log event
  opens log event step true is = none_fires log event (ap turn_in (sym (same_Some _ event is)))
  opens log event step false is = absurd (none-some event is)

  stood : (log : Log) (event : Event) (at : Standing) → follows_in basin (policy_of_code basin code) log at ≡ Some event → Verified log event
  stood log event (rests step) is = opens log event step (nat_lt step basin.control.stamps.count) is
  stood log event (inside step) is = chosen log event step (first_waiting basin log) is
  stood log event over is = absurd (none-some event is)

  given_verified : (log : Log) (inputs : List (Cell × ℤ)) → AreVerified basin code budgets log
      → AreVerified basin code budgets (with_inputs log inputs)
  given_verified log [] verified = verified
  given_verified log (input ∷ inputs) verified =
      given_verified (placed input.0 input.1 ∷ log) inputs (none_fires log (placed input.0 input.1) refl, verified)

  lead_verified : (old : Log) (events : List Event) (new : Log) → Leads basin (policy_of_code basin code) old events new
      → AreVerified basin code budgets old → AreVerified basin code budgets new
  lead_verified old [] new is verified = subst (λ log. AreVerified basin code budgets log) (sym is) verified
  lead_verified old (event ∷ events) new leads verified =
      lead_verified (event ∷ old) events new leads.1 (stood old event (standing old) leads.0, verified)

  pub firings_verified : (inputs : List (Cell × ℤ)) (log : Log) → IsRun basin (policy_of_code basin code) inputs log
      → AreVerified basin code budgets log
  firings_verified inputs log run = lead_verified (with_inputs [] inputs) run.events log run.leads (given_verified [] inputs tt)
