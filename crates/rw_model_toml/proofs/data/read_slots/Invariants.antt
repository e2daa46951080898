use Rattle.std.proofs.Common.{◌≡◌, ◌+◌, drop}
use Rattle.toml.specs.View.{items_view}
use Rattle.rw_model_toml.specs.ListOf.{list_read}
use Rattle.rw_model_toml.specs.Kinds.{data_slot_read}
use Rattle.rw_model_toml.proofs.Lists.{after}
use Rattle.rw_model_toml.proofs.data.read_slots.Given as goal

abbrev pub invariant-loop-place : goal.invariant-loop-place
invariant-loop-place l =
    after l.slots.items (list_read data_slot_read l.path (l.place + 1) (items_view (drop l.place l.items)))
    ≡ list_read data_slot_read l.path 1 (items_view l.items)
