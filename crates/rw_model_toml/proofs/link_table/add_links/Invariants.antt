use Rattle.std.proofs.Common.{◌≡◌, ◌+◌, drop, codes}
use Rattle.toml.specs.View.{items_view}
use Rattle.rw_model_toml.specs.Model.{in_turn}
use Rattle.rw_model_toml.specs.Told.{link_read}
use Rattle.rw_model_toml.proofs.link_table.add_links.Given as goal

abbrev pub invariant-loop-place : goal.invariant-loop-place
invariant-loop-place l =
    in_turn link_read (codes "link") (l.place + 1) (items_view (drop l.place l.items)) l.builder
    ≡ in_turn link_read (codes "link") 1 (items_view l.items) l.fn.builder
