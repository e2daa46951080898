-- What holds where a timestep of a run is closed.
use Rattle.rw_laws.proofs.Common.{AllByRecursion, Bool, Cell, DividesByZero, Done, Draft, EndsOutside, Event, Fire, FireEnd, Firing, IsBasin}
use Rattle.rw_laws.proofs.Common.{IsFault, IsLed, IsPolicyOf, List, Log, Policy, Some, Standing, Unknown, [], ap, arith, asked_for, asked_of_rule}
use Rattle.rw_laws.proofs.Common.{before_closing, cells_looked, cells_of, due_is_rule, ended, false, fault, fired, idle, if◌then◌else◌, inside}
use Rattle.rw_laws.proofs.Common.{last_firing, last_ones, looks_at, looks_of, nat_tests, none-some, over, with_inputs, puts_written, refl, rests}
use Rattle.rw_laws.proofs.Common.{same_Some, standing, standing-placed, subst, sym, true, value_in, weaker_all, ℕ, ℤ, ◌==◌, ◌∙◌, ◌∷◌, ◌≡◌, ◌≤◌}
use Rattle.rw_laws.specs.Rules.{AllStandBy, EndsAs}
use Rattle.rw_laws.proofs.Came.{Came, Fires, asks, closes, ends, fires, opens}
use Rattle.rw_laws.proofs.Dispatches.{Asked_of, asked_of, idles, solves, stops}
use Rattle.rw_laws.proofs.Firings.{FiredIn, IsLast, IsNotOf, all_stand_by, all_standing, fired_on, object_no_rule, other_rule}
use Rattle.rw_laws.proofs.LastOnes.{IsAt}
use Rattle.rw_laws.proofs.Steps.{Holds, LeftIn, ToldIn, begin_holds, dispatch_does, next_holds, solving}
use Rattle.rw_laws.proofs.Told.{AreTold}
use Rattle.rw_laws.proofs.Writings.{IsObjectWriting, IsRulePut, IsRuleWriting, asked_rule_all, fired_writings}
use Rattle.rw_laws.proofs.Along.{all_closed}
use Rattle.rw_run.proofs.Frames.{cells_of_looks}

abbrev FiredAt : Draft → Policy → Log → Standing → Type 0
FiredAt basin policy log (rests step) = Unit {0}
FiredAt basin policy log (inside step) = FiredIn basin policy step log
FiredAt basin policy log over = Unit {0}

pub record IsWithin (basin : Draft) (policy : Policy) (log : Log) : Type 0 where
  pub holds : Holds basin log
  pub fired : FiredAt basin policy log (standing log)

abbrev end_number : FireEnd → ℕ
end_number Unknown = 0
end_number Done = 1
end_number DividesByZero = 2
end_number (EndsOutside value) = 3

module _ (basin : Draft) (valid : IsBasin basin) (policy : Policy) (promise : IsPolicyOf basin policy) where
  over_fired : (log : Log) (event : Event) → IsFault event → FiredAt basin policy (event ∷ log) (standing (event ∷ log))
  over_fired log (fault why) over_by = tt
  over_fired log event over_by = absurd over_by

  told_here : (log : Log) (step : ℕ) → Holds basin log → standing log ≡ inside step → AreTold step (cells_of basin log)
  told_here log step holds stands = subst (ToldIn (cells_of basin log)) stands holds.told

  -- ---- a firing

  -- the firings after this one, by the rule that it is of
  after_firing : (log : Log) (step rule : ℕ) (fire : Fire) (firing : Firing) → firing.rule ≡ rule → Holds basin log → standing log ≡ inside step
      → FiredIn basin policy step log
      → policy.fire rule step (value_in (cells_of basin log)) ≡ Some fire → firing.looked ≡ looks_at (cells_of basin log) fire.looked
      → EndsAs firing.is_done fire.end → firing.asked ≡ asked_of_rule basin rule step fire.puts → firing.count ≡ fire.count
      → firing.written ≡ puts_written (cells_of basin log) (last_ones basin firing.asked)
      → AllByRecursion (IsRulePut basin rule step) firing.asked
      → AllByRecursion (IsRuleWriting basin step (cells_of basin log) rule step) firing.written
      → FiredIn basin policy step (fired firing ∷ log)
  after_firing log step rule fire firing of_rule holds stands before does looked end asked count written all wrote other found =
      λ is. by (firing.rule == other) refl is
    where
      by : (test : Bool) → (firing.rule == other) ≡ test → (if test then Some firing else last_firing log other) ≡ Some found
          → IsLast basin policy step (fired firing ∷ log) other found
      by false apart is =
          fired_on basin policy step step log (fired firing) other found
          (weaker_all (IsRuleWriting basin step (cells_of basin log) rule step) (IsNotOf basin step (cells_of basin log) other) firing.written
          (λ put both. (both.0, other_rule put.content.writer rule other both.1.writer (ap (λ r. r == other) (sym of_rule) ∙ apart))) wrote)
          (before other found is)
      by true same is =
          let one : firing.rule ≡ other = grind (arith, nat_tests, same) in
          let at : rule ≡ other = sym of_rule ∙ one in
          let this : firing ≡ found = same_Some _ _ is in
          let last : IsLast basin policy step (fired firing ∷ log) rule firing = record {
            fire = fire;
            before = cells_of basin log;
            does = does;
            saw = looked;
            is =
                record { end = end; looked = ap cells_looked looked ∙ cells_of_looks (cells_of basin log) fire.looked; asked = asked; count = count };
            slots = weaker_all (IsRulePut basin rule step) (IsAt basin) firing.asked (λ put is. is.slot) all;
            puts = all_standing basin step log rule step (told_here log step holds stands) firing.asked all (fired firing) written;
          } in
          subst (λ r. IsLast basin policy step (fired firing ∷ log) r found) at
          (subst (λ f. IsLast basin policy step (fired firing ∷ log) rule f) this last)

  ended_fired : (log : Log) (step rule : ℕ) (fire : Fire) (end : FireEnd) → fire.end ≡ end → Holds basin log → standing log ≡ inside step
      → FiredIn basin policy step log → 1 ≤ rule
      → policy.fire rule step (value_in (cells_of basin log)) ≡ Some fire
      → FiredAt basin policy (ended basin (cells_of basin log) rule step fire end ∷ log)
      (standing (ended basin (cells_of basin log) rule step fire end ∷ log))
  ended_fired log step rule fire Unknown at holds stands before first does =
      let none : fire.puts ≡ [] =
      promise.silent rule step (value_in (cells_of basin log)) fire does
      (λ done. let no : 0 ≡ 1 = ap end_number (sym at ∙ done) in omega (arith, no)) in
      after_firing log step rule fire _ refl holds stands before does refl (subst (EndsAs false) (sym at) refl)
      (ap (asked_of_rule basin rule step) (sym none)) refl refl tt tt
  ended_fired log step rule fire Done at holds stands before first does =
      let asks_all = promise.asks rule step (value_in (cells_of basin log)) fire does in
      after_firing log step rule fire _ refl holds stands before does refl (subst (EndsAs true) (sym at) refl) refl refl refl
      (asked_rule_all basin rule step fire.puts asks_all) (fired_writings basin policy step rule step (cells_of basin log) fire Done first asks_all)
  ended_fired log step rule fire end at holds stands before first does = tt

  fires_fired : (log : Log) (event : Event) → IsWithin basin policy log → Fires basin policy log event
      → FiredAt basin policy (event ∷ log) (standing (event ∷ log))
  fires_fired log event within at =
      let rule = due_is_rule basin policy (cells_of basin log) log at.rule at.due in
      subst (λ e. FiredAt basin policy (e ∷ log) (standing (e ∷ log))) (sym at.is)
      (ended_fired log at.step at.rule at.fire at.fire.end refl within.holds at.stands (subst (FiredAt basin policy log) at.stands within.fired)
      rule.first at.does)

  -- ---- a dispatch

  asks_fired : (log : Log) (event : Event) (step object : ℕ) → Holds basin log → standing log ≡ inside step → FiredIn basin policy step log
      → Asked_of basin (cells_of basin log) object step event → FiredAt basin policy (event ∷ log) (standing (event ∷ log))
  asks_fired log event step object holds stands before (idles at) =
      subst (λ e. FiredAt basin policy (e ∷ log) (standing (e ∷ log))) (sym at.is) (λ rule firing is.
      fired_on basin policy step step log (idle object step (looks_of basin (cells_of basin log) object step)) rule firing tt (before rule firing is))
  asks_fired log event step object holds stands before (solves at) =
      let left : LeftIn basin (cells_of basin log) (inside step) = subst (LeftIn basin (cells_of basin log)) stands holds.left in
      subst (λ e. FiredAt basin policy (e ∷ log) (standing (e ∷ log))) (sym at.is) (λ rule firing is.
      fired_on basin policy step step log (solving basin log object step at.puts) rule firing
      (weaker_all (IsObjectWriting basin step (cells_of basin log) object) (IsNotOf basin step (cells_of basin log) rule)
      (puts_written (cells_of basin log) (asked_for basin object step at.puts))
      (λ put both. (both.0, object_no_rule put.content.writer object rule both.1))
      (dispatch_does basin valid log object step event left at).writes) (before rule firing is))
  asks_fired log event step object holds stands before (stops why) = over_fired log event why

  next_fired : (log : Log) (event : Event) → IsWithin basin policy log → Came basin policy log event
      → FiredAt basin policy (event ∷ log) (standing (event ∷ log))
  next_fired log event within (opens at) =
      subst (λ e. FiredAt basin policy (e ∷ log) (standing (e ∷ log))) (sym at.is) (λ rule firing is. absurd (none-some firing is))
  next_fired log event within (closes at) = subst (λ e. FiredAt basin policy (e ∷ log) (standing (e ∷ log))) (sym at.is) tt
  next_fired log event within (fires at) = fires_fired log event within at
  next_fired log event within (asks at) =
      asks_fired log event at.step at.object within.holds at.stands (subst (FiredAt basin policy log) at.stands within.fired)
      (asked_of basin (cells_of basin log) at.object at.step event at.is)
  next_fired log event within (ends why) = over_fired log event why

  pub next_within : (log : Log) (event : Event) → Came basin policy log event → IsWithin basin policy log → IsWithin basin policy (event ∷ log)
  next_within log event comes within =
      record { holds = next_holds basin valid policy promise log event within.holds comes; fired = next_fired log event within comes }

  pub begin_within : (inputs : List (Cell × ℤ)) → IsWithin basin policy (with_inputs [] inputs)
  begin_within inputs = record {
    holds = begin_holds basin valid policy promise inputs;
    fired = subst (FiredAt basin policy (with_inputs [] inputs)) (sym (standing-placed [] inputs refl)) tt;
  }

  pub rules_stand : (inputs : List (Cell × ℤ)) (log : Log) → IsLed basin policy inputs log → (step : ℕ) (before : Log)
      → before_closing step log ≡ Some before
      → AllStandBy basin policy step before
  rules_stand inputs log run = all_closed basin policy (IsWithin basin policy) next_within (AllStandBy basin policy) (λ log event within at.
      all_stand_by basin policy at.step log promise (subst (FiredAt basin policy log) at.stands within.fired) at.none_due) inputs log run
      (begin_within inputs)
