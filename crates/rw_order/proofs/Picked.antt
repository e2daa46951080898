-- Runs in which a rule picks who is dispatched.
use Rattle.std.specs.Prelude.{Err, IfOk, Ok, Result}
use Rattle.rw_base.specs.declared.memory.NoMemory.{NoMemory}
use Rattle.rw_dispatch.specs.Pick.{IsPickedRun, LeadsPicked, Picking, PicksOne, follows_picked, picked, turn_count}
use Rattle.rw_run.specs.Next.{Policy, first_due, next_of}
use Rattle.rw_run.specs.declared.run.Run.{Run}
use Rattle.rpl_verify.specs.Verified.{Accepted}
use Rattle.rpl_policy.specs.Policy.{policy_of_code}
use Rattle.rw_rules.specs.Rules.{policy_in}
use Rattle.rw_engine.specs.Picked.{ComesToPicked}
use Rattle.rw_engine.proofs.Anyhow.{chosen_at}
use Rattle.rw_engine.proofs.Oldest.{run_is_oldest}
use Rattle.rw_order.proofs.Common.{AgendaOrder, Cell, Cells, Draft, Event, HighFirst, Inputs, IsRun, List, Log, LowFirst, MayLead, None, Option, Some}
use Rattle.rw_order.proofs.Common.{Standing, [], after_objects, agenda_of, ap, arith, cells_of, find, follows_by, inside, is_due, length, no_rules}
use Rattle.rw_order.proofs.Common.{over, with_inputs, refl, rests, slice_get, standing, sym, waiting, ℕ, ℤ, ◌<◌, ◌∙◌, ◌∷◌, ◌≡◌, ◌≤◌}
use Rattle.rw_order.specs.AnyRun.{IsAnyRun}

picks_may_lead : (basin : Draft) (rule : Picking) (old : Log) (events : List Event) (new : Log) → PicksOne rule
    → LeadsPicked basin no_rules rule old events new
    → MayLead basin no_rules old events new
picks_may_lead basin rule old [] new one leads = leads
picks_may_lead basin rule old (event ∷ events) new one leads = (
  record {
    object = picked rule old (waiting basin old);
    waits =
        chosen_at (waiting basin old) (rule (turn_count old) (waiting basin old)) (picked rule old (waiting basin old)) refl
        (one (turn_count old) (waiting basin old));
    is = leads.0;
  },
  picks_may_lead basin rule (event ∷ old) events new one leads.1,
)

-- a run that a rule picks is one in any order
pub picked_is_any : (basin : Draft) (rule : Picking) (inputs : List (Cell × ℤ)) (log : Log) → PicksOne rule
    → IsPickedRun basin no_rules rule inputs log
    → IsAnyRun basin inputs log
picked_is_any basin rule inputs log one run =
    record { events = run.events; leads = picks_may_lead basin rule (with_inputs [] inputs) run.events log one run.leads; end = run.end }

-- so a run is one in any order
pub run_is_any : (basin : Draft) (inputs : List (Cell × ℤ)) (log : Log) → IsRun basin no_rules inputs log → IsAnyRun basin inputs log
run_is_any basin inputs log run =
    picked_is_any basin _ inputs log (λ turn waits some. some_first waits some) (run_is_oldest basin no_rules inputs log run)
  where
    some_first : (waits : List ℕ) → 1 ≤ length waits → 0 < length waits
    some_first waits some = omega (arith, some)

-- ---- a policy with no rule

nothing_due : (cells : Cells) (log : Log) (order : AgendaOrder) → find (is_due cells log) (agenda_of order 0) ≡ None
nothing_due cells log HighFirst = refl
nothing_due cells log LowFirst = refl

module _ (basin : Draft) (policy : Policy) (none : policy.rules ≡ 0) where
  none_due : (cells : Cells) (log : Log) → first_due basin policy cells log ≡ None
  none_due cells log = ap (λ rules. find (is_due cells log) (agenda_of basin.control.agenda rules)) none ∙ nothing_due cells log basin.control.agenda

  next_same : (cells : Cells) (log : Log) (step : ℕ) (object : Option ℕ)
      → next_of basin policy cells log step object ≡ next_of basin no_rules cells log step object
  next_same cells log step (Some object) = refl
  next_same cells log step None =
      ap (after_objects basin policy cells log step) (none_due cells log)
      ∙ sym (ap (after_objects basin no_rules cells log step) (nothing_due cells log basin.control.agenda))

  follows_same : (log : Log) (object : Option ℕ) (stands : Standing)
      → follows_by basin no_rules log object stands ≡ follows_by basin policy log object stands
  follows_same log object (rests step) = refl
  follows_same log object (inside step) = sym (next_same (cells_of basin log) log step object)
  follows_same log object over = refl

  picked_same : (rule : Picking) (old : Log) (events : List Event) (new : Log) → LeadsPicked basin policy rule old events new
      → LeadsPicked basin no_rules rule old events new
  picked_same rule old [] new leads = leads
  picked_same rule old (event ∷ events) new leads =
      (follows_same old (picked rule old (waiting basin old)) (standing old) ∙ leads.0, picked_same rule (event ∷ old) events new leads.1)

  any_same : (old : Log) (events : List Event) (new : Log) → MayLead basin policy old events new → MayLead basin no_rules old events new
  any_same old [] new leads = leads
  any_same old (event ∷ events) new leads = (
    record {
      object = leads.0.object;
      waits = leads.0.waits;
      is = follows_same old leads.0.object (standing old) ∙ leads.0.is;
    },
    any_same (event ∷ old) events new leads.1,
  )

-- what a run of no code comes to
pub comes_without : (basin : Draft) (policy : Accepted) (rule : Picking) (inputs : Inputs) (result : Result Run NoMemory) → policy.blocks ≡ []
    → IfOk result (ComesToPicked basin (policy_in basin policy) rule inputs) → IfOk result (ComesToPicked basin no_rules rule inputs)
comes_without basin policy rule inputs (Err want) is comes = tt
comes_without basin policy rule inputs (Ok run) is comes =
    let none = ap (λ blocks. (policy_of_code basin blocks).rules) is in record {
      log = comes.log;
      whole = record {
        events = comes.whole.events;
        leads = picked_same basin (policy_in basin policy) none rule _ comes.whole.events comes.log comes.whole.leads;
        end = comes.whole.end;
      };
      any = any_same basin (policy_in basin policy) none _ comes.whole.events comes.log comes.any;
      is = comes.is;
    }

-- what holds of all that a run comes to
pub of_ok : (P Q : Run → Type 0) (result : Result Run NoMemory) → ((run : Run) → P run → Q run) → IfOk result P → IfOk result Q
of_ok P Q (Ok run) more holds = more run holds
of_ok P Q (Err want) more holds = tt
