use Rattle.rw_model_toml.specs.Told.{bound_read}
use Rattle.rw_model_toml.proofs.Lists.{gives-fault, stops, goes-on}
use Rattle.rw_model_toml.proofs.bound_table.read_bound.Goals as goal

pub returns-in_err-text : goal.returns-in_err-text
unfolding bound_read
returns-in_err-text c =
    gives-fault _ c.from_residual-in_err-text.result _ c.in_err-text.field-0.0 c.from_residual-in_err-text.ensures.1
    (goes-on _ _ _ _ c.in_ok-table.ensures (stops _ _ c.in_err-text.field-0.0 c.in_err-text.ensures))

pub returns-in_err-min : goal.returns-in_err-min
unfolding bound_read
returns-in_err-min c =
    gives-fault _ c.from_residual-in_err-min.result _ c.in_err-min.field-0.0 c.from_residual-in_err-min.ensures.1
    (goes-on _ _ _ _ c.in_ok-table.ensures (goes-on _ _ _ _ c.in_ok-text.ensures
    (stops _ _ c.in_err-min.field-0.0 c.in_err-min.ensures)))

pub returns-in_err-max : goal.returns-in_err-max
unfolding bound_read
returns-in_err-max c =
    gives-fault _ c.from_residual-in_err-max.result _ c.in_err-max.field-0.0 c.from_residual-in_err-max.ensures.1
    (goes-on _ _ _ _ c.in_ok-table.ensures (goes-on _ _ _ _ c.in_ok-text.ensures (goes-on _ _ _ _ c.in_ok-min.ensures
    (stops _ _ c.in_err-max.field-0.0 c.in_err-max.ensures))))

pub returns-in_err-only_listed : goal.returns-in_err-only_listed
unfolding bound_read
returns-in_err-only_listed c =
    gives-fault _ c.from_residual-in_err-only_listed.result _ c.in_err-only_listed.field-0.0 c.from_residual-in_err-only_listed.ensures.1
    (goes-on _ _ _ _ c.in_ok-table.ensures (goes-on _ _ _ _ c.in_ok-text.ensures (goes-on _ _ _ _ c.in_ok-min.ensures
    (goes-on _ _ _ _ c.in_ok-max.ensures (stops _ _ c.in_err-only_listed.field-0.0 c.in_err-only_listed.ensures)))))
