-- What is told of a rule's firing, and the event that it is.
use Rattle.std.specs.Prelude.{◌≡◌, ◌-◌, ◌≤◌, ℕ, List, length, Option, slice_index_or, unwrap_or, option_and_then, option_map, Ok}
use Rattle.rw_model.specs.Draft.{Draft}
use Rattle.rw_model.specs.Objects.{numbered}
use Rattle.rw_dispatch.specs.Writes.{AreWrites}
use Rattle.rw_run.specs.Log.{Cells, Event, asked_in, written_by}
use Rattle.rw_writes.specs.Writes.{Writes}
use Rattle.rw_run.specs.Next.{ended, firing_of}
use Rattle.rw_model.specs.Turn.{IsStep}
use Rattle.rw_agenda.specs.declared.limits.TheConstants.{RULES_MAX}
use Rattle.rpl_code.specs.declared.block.BlockHead.TheVariants.{Rule}
use Rattle.rw_firing.specs.Fire.{Fire}
use Rattle.rpl_tree.specs.Budget.{Budget}
use Rattle.rpl_verify.specs.Fits.{count_alike}
use Rattle.rpl_verify.specs.Machine.{rule_from}
use Rattle.rpl_verify.specs.Verified.{Accepted, verified}
use Rattle.rpl_policy.specs.Policy.{policy_of_code}

-- a rule of accepted code, and the timestep at which it fires
pub record IsRuleTurn (basin : Draft) (policy : Accepted) (rule step : ℕ) : Type 0 where
  pub accepted : verified basin policy.blocks ≡ Ok policy
  pub first : 1 ≤ rule
  pub last : rule ≤ count_alike Rule policy.blocks
  pub at : IsStep basin step

-- the event that its firing is, where the cells hold this
abbrev pub firing_event : Draft → Accepted → Cells → ℕ → ℕ → Option Event
firing_event basin policy cells rule step = firing_of basin (policy_of_code basin policy.blocks) cells rule step

-- the event of a firing that is told, where the cells held this
abbrev pub event_of_fired : Draft → Cells → ℕ → ℕ → Fire → Event
event_of_fired basin cells rule step fire = ended basin cells rule step fire fire.end

-- the writes of a firing are what its event asks for and what it writes, and all of it may be written
pub record HasPuts (basin : Draft) (event : Event) (writes : Writes) : Type 0 where
  pub asked : writes.asked ≡ asked_in event
  pub written : writes.written ≡ written_by event
  pub can_ask : AreWrites basin writes.asked
  pub can : AreWrites basin writes.written

-- how often a rule looks at most, by the budget of its block
abbrev pub most_looks : Accepted → ℕ → ℕ
most_looks policy rule =
    unwrap_or (option_map (λ (b : Budget). b.looks) (option_and_then (λ block. numbered policy.budgets block) (rule_from 1 policy.blocks rule))) 0

-- that of each rule, of rule 1 first; there are no more than an agenda has
pub record AreReads (policy : Accepted) (reads : List ℕ) : Type 0 where
  pub many : length reads ≡ count_alike Rule policy.blocks
  pub few : length reads ≤ RULES_MAX
  pub each : (rule : ℕ) → 1 ≤ rule → rule ≤ count_alike Rule policy.blocks → slice_index_or reads (rule - 1) 0 ≡ most_looks policy rule
