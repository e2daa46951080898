-- Policies that do the same have the same runs.
use Rattle.rw_base.proofs.Common.{◌≡◌, ◌<◌, ◌+◌, ◌==◌, ℕ, ℤ, Bool, true, false, cond, List, [], ◌∷◌, Option, Some, None, find, reverse, nat_le, refl}
use Rattle.rw_base.proofs.Common.{sym, ap, subst, ◌∙◌, arith, if◌then◌else◌, option_map, nat_tests, reverse-append, same_Some, none-some}
use Rattle.rw_base.specs.declared.number.Cell.{Cell}
use Rattle.rw_model.specs.Draft.{Draft}
use Rattle.rw_model.specs.declared.control.AgendaOrder.{AgendaOrder}
use Rattle.rw_model.specs.declared.control.AgendaOrder.TheVariants.{HighFirst, LowFirst}
use Rattle.rw_firing.specs.Fire.{Fire}
use Rattle.rw_run.specs.declared.fault.RunFault.TheVariants.{RuleLimit}
use Rattle.rw_run.specs.Log.{Cells, Event, Log, cells_of, fault, value_in}
use Rattle.rw_run.specs.Times.{times}
use Rattle.rw_run.specs.Waiting.{numbers, first_waiting}
use Rattle.rw_run.specs.Next.{Policy, agenda_of, after_objects, ended, firing_of, firings, first_due, is_due, next_of, no_rules}
use Rattle.rw_run.specs.Policy.{FireAlike, IsRule}
use Rattle.rw_run.specs.Runs.{IsRun, Leads, Standing, rests, inside, over, follows_by, with_inputs, standing}
use Rattle.rw_run.proofs.Lists.{times-append, times-numbers}

-- ---- what is found on the agenda is a rule

found_is : (p : ℕ → Bool) (x r : ℕ) (xs : List ℕ) (test : Bool) → p x ≡ test → (find p xs ≡ Some r → 0 < times r xs)
    → cond test (Some x) (find p xs) ≡ Some r → 0 < times r (x ∷ xs)
found_is p x r xs true is later found = let same : x ≡ r = same_Some _ _ found in grind (arith, nat_tests)
found_is p x r xs false is later found = let more = later found in grind (arith, nat_tests)

found_in : (p : ℕ → Bool) (r : ℕ) (xs : List ℕ) → find p xs ≡ Some r → 0 < times r xs
found_in p r [] found = absurd (none-some _ found)
found_in p r (x ∷ xs) found = found_is p x r xs (p x) refl (found_in p r xs) found

moved : (c a b : ℕ) → a ≡ b → a + (c + 0) ≡ c + b
moved c a b same = omega (arith, same)

turned_round : (r : ℕ) (xs : List ℕ) → times r (reverse xs) ≡ times r xs
turned_round r [] = refl
turned_round r (x ∷ xs) =
    ap (times r) (reverse-append (x ∷ []) xs) ∙ times-append r (reverse xs) (x ∷ []) ∙ moved (cond (r == x) 1 0) _ _ (turned_round r xs)

pub on_agenda : (order : AgendaOrder) (r rules : ℕ) → times r (agenda_of order rules) ≡ times r (numbers rules)
on_agenda HighFirst r rules = refl
on_agenda LowFirst r rules = turned_round r (numbers rules)

pub due_is_rule : (basin : Draft) (policy : Policy) (cells : Cells) (log : Log) (rule : ℕ) → first_due basin policy cells log ≡ Some rule
    → IsRule policy rule
due_is_rule basin policy cells log rule found =
    let there : 0 < times rule (numbers policy.rules) = subst (λ n. 0 < n) (on_agenda basin.control.agenda rule policy.rules)
    (found_in (is_due cells log) rule (agenda_of basin.control.agenda policy.rules) found) in
    let counted = times-numbers rule policy.rules in
    record { first = grind (arith, nat_tests, there, counted); last = grind (arith, nat_tests, there, counted) }

-- ---- what follows is the same

module _ (basin : Draft) (one other : Policy) (alike : FireAlike one other) where
  fires_same : (cells : Cells) (rule step : ℕ) → IsRule one rule → firing_of basin one cells rule step ≡ firing_of basin other cells rule step
  fires_same cells rule step is =
      ap (option_map (λ (fire : Fire). ended basin cells rule step fire fire.end)) (alike.same rule step (value_in cells) is)

  after_same : (cells : Cells) (log : Log) (step : ℕ) (due : Option ℕ) → ((rule : ℕ) → due ≡ Some rule → IsRule one rule)
      → after_objects basin one cells log step due ≡ after_objects basin other cells log step due
  after_same cells log step None is = refl
  after_same cells log step (Some rule) is =
      ap (λ fires. if nat_le basin.control.rule_limit (firings log rule) then Some
      (fault (RuleLimit (record { 0 = rule }) (record { 0 = step }) (firings log rule))) else fires)
      (fires_same cells rule step (is rule refl))

  due_same : (cells : Cells) (log : Log) → first_due basin one cells log ≡ first_due basin other cells log
  due_same cells log = ap (λ rules. find (is_due cells log) (agenda_of basin.control.agenda rules)) alike.rules

  next_of_same : (cells : Cells) (log : Log) (step : ℕ) (object : Option ℕ)
      → next_of basin one cells log step object ≡ next_of basin other cells log step object
  next_of_same cells log step (Some object) = refl
  next_of_same cells log step None =
      after_same cells log step (first_due basin one cells log) (λ rule found. due_is_rule basin one cells log rule found)
      ∙ ap (after_objects basin other cells log step) (due_same cells log)

  follows_same : (log : Log) (object : Option ℕ) (at : Standing) → follows_by basin one log object at ≡ follows_by basin other log object at
  follows_same log object (rests step) = refl
  follows_same log object (inside step) = next_of_same (cells_of basin log) log step object
  follows_same log object over = refl

  leads_same : (old : Log) (events : List Event) (new : Log) → Leads basin one old events new → Leads basin other old events new
  leads_same old [] new leads = leads
  leads_same old (event ∷ events) new leads =
      (sym (follows_same old (first_waiting basin old) (standing old)) ∙ leads.0, leads_same (event ∷ old) events new leads.1)

pub same_runs : (basin : Draft) (one other : Policy) (inputs : List (Cell × ℤ)) (log : Log) → FireAlike one other → IsRun basin one inputs log
    → IsRun basin other inputs log
same_runs basin one other inputs log alike run =
    record { events = run.events; leads = leads_same basin one other alike (with_inputs [] inputs) run.events log run.leads; end = run.end }

pub alike_none : (other : Policy) → other.rules ≡ 0 → FireAlike no_rules other
alike_none other none = record {
  rules = sym none;
  same = λ rule step values is. absurd (let first = is.first in let last = is.last in omega (arith, first, last));
}
