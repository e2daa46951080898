use Rattle.std.proofs.Common.{◌≡◌, drop, nat_le}
use Rattle.toml.specs.Data.{items_depth, members_depth}
use Rattle.toml.specs.View.{items_view, members_view}
use Rattle.rw_model_toml.proofs.depth.+depth.Given as goal

abbrev pub invariant-items_nest_within-items : goal.invariant-items_nest_within-items
invariant-items_nest_within-items l =
    nat_le (items_depth (items_view (drop l.item-index l.items))) l.deepest ≡ nat_le (items_depth (items_view l.items)) l.deepest

abbrev pub invariant-table_nests_within-members : goal.invariant-table_nests_within-members
invariant-table_nests_within-members l =
    (goal.iterator-table_nests_within-members).can_next l._key-iterator ×
    (goal.iterator-table_nests_within-members).is_finite l._key-iterator ×
    (nat_le (members_depth (members_view l._key-iterator)) l.deepest ≡ nat_le (members_depth (members_view l.table.entries)) l.deepest)
