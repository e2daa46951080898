use Rattle.rw_model_toml.specs.Kinds.{reservoir_of}
use Rattle.rw_model_toml.proofs.Lists.{gives-fault, stops, goes-on}
use Rattle.rw_model_toml.proofs.object_kind.read_reservoir.Goals as goal

pub returns-in_err-initial_storage : goal.returns-in_err-initial_storage
unfolding reservoir_of
returns-in_err-initial_storage c =
    gives-fault (λ kind. kind) c.from_residual.result _ c.in_err-initial_storage.field-0.0 c.from_residual.ensures.1
    (stops _ _ c.in_err-initial_storage.field-0.0 c.in_err-initial_storage.ensures.read)

pub returns-in_err-rating : goal.returns-in_err-rating
unfolding reservoir_of
returns-in_err-rating c =
    gives-fault (λ kind. kind) c.from_residual-in_err-rating.result _ c.in_err-rating.field-0.0 c.from_residual-in_err-rating.ensures.1
    (goes-on _ _ _ _ c.in_ok-initial_storage.ensures.read (stops _ _ c.in_err-rating.field-0.0 c.in_err-rating.ensures))

pub returns-in_err-options : goal.returns-in_err-options
unfolding reservoir_of
returns-in_err-options c =
    gives-fault (λ kind. kind) c.from_residual-in_err-options.result _ c.in_err-options.field-0.0 c.from_residual-in_err-options.ensures.1
    (goes-on _ _ _ _ c.in_ok-initial_storage.ensures.read (goes-on _ _ _ _ c.in_ok-rating.ensures
    (stops _ _ c.in_err-options.field-0.0 c.in_err-options.ensures)))

pub returns-in_err-evaporation : goal.returns-in_err-evaporation
unfolding reservoir_of
returns-in_err-evaporation c =
    gives-fault (λ kind. kind) c.from_residual-in_err-evaporation.result _ c.in_err-evaporation.field-0.0 c.from_residual-in_err-evaporation.ensures.1
    (goes-on _ _ _ _ c.in_ok-initial_storage.ensures.read (goes-on _ _ _ _ c.in_ok-rating.ensures (goes-on _ _ _ _ c.in_ok-options.ensures
    (stops _ _ c.in_err-evaporation.field-0.0 c.in_err-evaporation.ensures))))

pub returns-in_err-max_release : goal.returns-in_err-max_release
unfolding reservoir_of
returns-in_err-max_release c =
    gives-fault (λ kind. kind) c.from_residual-in_err-max_release.result _ c.in_err-max_release.field-0.0 c.from_residual-in_err-max_release.ensures.1
    (goes-on _ _ _ _ c.in_ok-initial_storage.ensures.read (goes-on _ _ _ _ c.in_ok-rating.ensures (goes-on _ _ _ _ c.in_ok-options.ensures
    (goes-on _ _ _ _ c.in_ok-evaporation.ensures (stops _ _ c.in_err-max_release.field-0.0 c.in_err-max_release.ensures)))))

pub returns-in_err-only_listed : goal.returns-in_err-only_listed
unfolding reservoir_of
returns-in_err-only_listed c =
    gives-fault (λ kind. kind) c.from_residual-in_err-only_listed.result _ c.in_err-only_listed.field-0.0 c.from_residual-in_err-only_listed.ensures.1
    (goes-on _ _ _ _ c.in_ok-initial_storage.ensures.read (goes-on _ _ _ _ c.in_ok-rating.ensures (goes-on _ _ _ _ c.in_ok-options.ensures
    (goes-on _ _ _ _ c.in_ok-evaporation.ensures
    (goes-on _ _ _ _ c.in_ok-max_release.ensures (stops _ _ c.in_err-only_listed.field-0.0 c.in_err-only_listed.ensures))))))
