use Rattle.std.proofs.Common.{◌≡◌, ◌+◌, drop, codes}
use Rattle.toml.specs.View.{items_view}
use Rattle.rw_model_toml.specs.Model.{in_turn}
use Rattle.rw_model_toml.specs.Told.{object_read}
use Rattle.rw_model_toml.proofs.object_table.add_objects.Given as goal

abbrev pub invariant-loop-place : goal.invariant-loop-place
invariant-loop-place l =
    in_turn object_read (codes "object") (l.place + 1) (items_view (drop l.place l.items)) l.builder
    ≡ in_turn object_read (codes "object") 1 (items_view l.items) l.fn.builder
