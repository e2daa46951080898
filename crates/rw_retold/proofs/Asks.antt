-- What a firing asks for can be written where it is in the run, and is to slots of the basin.
use Rattle.rw_base.proofs.Common.{◌≡◌, ◌∙◌, ◌≤◌, ◌+◌, ℕ, ℤ, Bool, true, false, List, [], ◌∷◌, Option, Some, None, All, All-cons, All-filter}
use Rattle.rw_base.proofs.Common.{All-head, All-nil, All-tail}
use Rattle.rw_base.proofs.Common.{ap, sym, subst, refl, filter, if◌then◌else◌, map, nat_le}
use Rattle.rw_base.specs.declared.number.Cell.{Cell}
use Rattle.rw_writes.proofs.Granted.{one_asked}
use Rattle.rw_model.specs.Draft.{Draft, IsSlot}
use Rattle.rw_model.specs.Turn.{IsStep}
use Rattle.rw_firing.specs.Fire.{Fire}
use Rattle.rw_firing.specs.declared.fire.RulePut.{RulePut}
use Rattle.rw_dispatch.specs.Writes.{AreWrites, CanWrite}
use Rattle.rw_run.specs.Dispatch.{end_in, is_written, puts_written}
use Rattle.rw_run.specs.Log.{Asked, Cells, Firing, value_in}
use Rattle.rw_run.specs.Next.{Policy, asked_by_rule, is_put_again, last_ones}
use Rattle.rw_run.specs.Policy.{CanAsk}
use Rattle.rw_asked.specs.Asked.{AreToSlots, is_in_run, wanted_by, wanted_of}

pub to_slots : (basin : Draft) (rule step : ℕ) (puts : List RulePut) → All (CanAsk basin) puts → AreToSlots basin (map (asked_by_rule rule step) puts)
to_slots basin rule step [] can = All-nil (λ (put : Asked). IsSlot basin.objects put.cell.slot.0)
to_slots basin rule step (put ∷ puts) can =
    All-cons (λ (put : Asked). IsSlot basin.objects put.cell.slot.0) (asked_by_rule rule step put) (map (asked_by_rule rule step) puts)
    (All-head (CanAsk basin) put puts can).slot (to_slots basin rule step puts (All-tail (CanAsk basin) put puts can))

all_within : (basin : Draft) (rule step : ℕ) (puts : List RulePut) → 1 ≤ step → All (CanAsk basin) puts
    → AreWrites basin (filter (is_in_run basin) (map (asked_by_rule rule step) puts))
all_within basin rule step [] first can = All-nil (CanWrite basin)
all_within basin rule step (put ∷ puts) first can =
    one_asked basin rule step put (filter (is_in_run basin) (map (asked_by_rule rule step) puts))
    (nat_le (step + put.ahead) basin.control.stamps.count) first
    (All-head (CanAsk basin) put puts can) refl (all_within basin rule step puts first (All-tail (CanAsk basin) put puts can))

last_within : (basin : Draft) (puts : List Asked) → AreWrites basin puts → AreWrites basin (last_ones basin puts)
last_within basin [] all = all
last_within basin (put ∷ puts) all = by (is_put_again basin put puts) (last_within basin puts (All-tail (CanWrite basin) put puts all))
  where
    by : (t : Bool) → AreWrites basin (last_ones basin puts) → AreWrites basin (if t then last_ones basin puts else put ∷ last_ones basin puts)
    by true rest = rest
    by false rest = All-cons (CanWrite basin) put (last_ones basin puts) (All-head (CanWrite basin) put puts all) rest

written_within : (basin : Draft) (cells : Cells) (puts : List Asked) → AreWrites basin puts → AreWrites basin
    (puts_written cells (last_ones basin puts))
written_within basin cells puts all =
    All-filter (λ (put : Asked). is_written (end_in cells put)) (CanWrite basin) (last_ones basin puts) (last_within basin puts all)

found_within : (basin : Draft) (rule step : ℕ) (found : Option Fire) (fire : Fire) → found ≡ Some fire → 1 ≤ step → All (CanAsk basin) fire.puts
    → (is_done : Bool) → AreWrites basin (filter (is_in_run basin) (if is_done then wanted_of rule step found else []))
found_within basin rule step found fire is first can true =
    subst (λ one. AreWrites basin (filter (is_in_run basin) (wanted_of rule step one))) (sym is) (all_within basin rule step fire.puts first can)
found_within basin rule step found fire is first can false = All-nil (CanWrite basin)

-- what a firing of the rule writes
pub firing_within : (basin : Draft) (policy : Policy) (cells : Cells) (firing : Firing) (fire : Fire)
    → policy.fire firing.rule firing.step (value_in cells) ≡ Some fire → IsStep basin firing.step
    → All (CanAsk basin) fire.puts
    → firing.written ≡ puts_written cells (last_ones basin (filter (is_in_run basin) (wanted_by policy cells firing)))
    → AreWrites basin firing.written
firing_within basin policy cells firing fire is at can are =
    subst (AreWrites basin) (sym are)
    (written_within basin cells _ (found_within basin firing.rule firing.step _ fire is at.first can firing.is_done))
