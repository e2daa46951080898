-- The rules of a policy in a run, and what they show of a log.
use Rattle.std.specs.Prelude.{◌≡◌, ℕ, ◌≤◌, List, ◌∷◌, length, Some}
use Rattle.rw_model.specs.Draft.{Draft}
use Rattle.rw_firing.specs.Fire.{Fire}
use Rattle.rw_run.specs.Dispatch.{looks_at}
use Rattle.rw_dispatch.specs.Writes.{AreWrites}
use Rattle.rw_run.specs.Log.{Asked, Cells, Firing, Log, asked_in, fired, written_by}
use Rattle.rw_run.specs.Next.{Policy, ended, last_looks}
use Rattle.rw_agenda.specs.Agenda.{Agenda, IsIndexed, looked_by, look_room}
use Rattle.rw_writes.specs.Writes.{Writes}
use Rattle.rpl_code.specs.declared.block.BlockHead.TheVariants.{Rule}
use Rattle.rpl_policy.specs.Policy.{policy_of_code}
use Rattle.rpl_verify.specs.Fits.{count_alike}
use Rattle.rpl_verify.specs.Verified.{Accepted}
use Rattle.rw_rules.specs.Firing.{firing_event, most_looks}
use Rattle.rw_rules.specs.declared.rule_fired.RuleFired.{RuleFired}

-- the agenda, the puts of the last firing in the run's timesteps, and those of them that are to be written
pub record Rules : Type 0 where
  pub agenda : Agenda
  pub asked : List Asked
  pub written : List Asked

-- those of an agenda, and of the writes of the last firing
abbrev pub rules_kept : Agenda → Writes → Rules
rules_kept agenda writes = record { agenda = agenda; asked = writes.asked; written = writes.written }

-- made for the rules of a policy for a basin, with room for what each may look at
pub record IsRulesOf (basin : Draft) (policy : Accepted) (rules : Rules) : Type 0 where
  pub order : rules.agenda.order ≡ basin.control.agenda
  pub many : length rules.agenda.rules ≡ count_alike Rule policy.blocks
  pub rooms : (rule : ℕ) → 1 ≤ rule → rule ≤ count_alike Rule policy.blocks → most_looks policy rule ≤ look_room rules.agenda rule

-- they have what each rule looked at when it last fired in the log's open timestep
abbrev pub ShowsLooks : Accepted → Rules → Log → Type 0
ShowsLooks policy rules log =
    (rule : ℕ) → 1 ≤ rule → rule ≤ count_alike Rule policy.blocks → looked_by rules.agenda rule ≡ last_looks log rule

-- the policy of the code
abbrev pub policy_in : Draft → Accepted → Policy
policy_in basin policy = policy_of_code basin policy.blocks

-- what is told of a rule's firing: by the definition it is the event of a firing that ended and counted so, looked at what the agenda keeps,
-- asked for what may be written, and writes what is to be written
pub record Told (basin : Draft) (policy : Accepted) (cells : Cells) (rule step : ℕ) (told : RuleFired) (rules : Rules) : Type 0 where
  pub fire : Fire
  pub event : firing_event basin policy cells rule step ≡ Some (ended basin cells rule step fire fire.end)
  pub end : told.end ≡ fire.end
  pub count : told.count ≡ fire.count
  pub looked : looked_by rules.agenda rule ≡ Some (looks_at cells fire.looked)
  pub asked : rules.asked ≡ asked_in (ended basin cells rule step fire fire.end)
  pub can_ask : AreWrites basin rules.asked
  pub written : rules.written ≡ written_by (ended basin cells rule step fire fire.end)

-- once a rule has fired and before its puts are written: what was known of cells still is, and the looks of the log with the firing are shown
pub record FiredOn (policy : Accepted) (cells : Cells) (rule : ℕ) (old new : Rules) : Type 0 where
  pub indexed : IsIndexed old.agenda cells → IsIndexed new.agenda cells
  pub shows : (log : Log) (firing : Firing) → firing.rule ≡ rule → looked_by new.agenda rule ≡ Some firing.looked
      → ShowsLooks policy old log → ShowsLooks policy new (fired firing ∷ log)

-- once they are written: nothing but marks is another, and what is known of cells is known of those that there are then
pub record WrittenOn (before after : Cells) (old new : Rules) : Type 0 where
  pub order : new.agenda.order ≡ old.agenda.order
  pub rules : new.agenda.rules ≡ old.agenda.rules
  pub written : new.written ≡ old.written
  pub indexed : IsIndexed old.agenda before → IsIndexed new.agenda after
