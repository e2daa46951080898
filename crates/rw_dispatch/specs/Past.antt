-- Within the crate: an earlier value of a slot.
use Rattle.std.specs.Prelude.{ℕ}
use Rattle.rw_base.specs.declared.number.SlotNo.{SlotNo}
use Rattle.rw_run.specs.Dispatch.{Past}

-- a slot, and how many timesteps ago
abbrev pub past_seen : SlotNo × ℕ → Past
past_seen past = record { slot = past.0.0; ago = past.1 }
