use Rattle.std.proofs.Common.{◌≡◌, ◌+◌, drop}
use Rattle.toml.specs.View.{items_view}
use Rattle.rw_model_toml.specs.ListOf.{list_read}
use Rattle.rw_model_toml.specs.Kinds.{inflow_of}
use Rattle.rw_model_toml.proofs.Lists.{after}
use Rattle.rw_model_toml.proofs.history.read_inflows.Given as goal

abbrev pub invariant-loop-place : goal.invariant-loop-place
invariant-loop-place l =
    after l.inflows.items (list_read inflow_of l.path (l.place + 1) (items_view (drop l.place l.items)))
    ≡ list_read inflow_of l.path 1 (items_view l.items)
