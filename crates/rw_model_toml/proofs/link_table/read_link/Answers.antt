use Rattle.std.proofs.Common.{◌∙◌}
use Rattle.rw_model_toml.specs.Told.{link_read}
use Rattle.rw_model_toml.proofs.Lists.{gives-fault, stops, goes-on}
use Rattle.rw_model_toml.proofs.link_table.read_link.Goals as goal

pub returns-in_err-items : goal.returns-in_err-items
unfolding link_read
returns-in_err-items c =
    gives-fault _ c.from_residual-in_err-items.result _ c.in_err-items.field-0.0 c.from_residual-in_err-items.ensures.1
    (goes-on _ _ _ _ c.in_ok-table.ensures (stops _ _ c.in_err-items.field-0.0 c.in_err-items.ensures))

pub returns-in_err-slots : goal.returns-in_err-slots
unfolding link_read
returns-in_err-slots c =
    gives-fault _ c.from_residual-in_err-slots.result _ c.in_err-slots.field-0.0 c.from_residual-in_err-slots.ensures.1
    (goes-on _ _ _ _ c.in_ok-table.ensures (goes-on _ _ _ _ c.in_ok-items.ensures
    (stops _ _ c.in_err-slots.field-0.0 (rw (c.as_str.ensures.value ∙ c.in_ok-path.ensures) at c.in_err-slots.ensures))))
