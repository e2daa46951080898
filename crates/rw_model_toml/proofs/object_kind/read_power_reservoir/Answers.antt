use Rattle.rw_model_toml.specs.Kinds.{power_reservoir_of}
use Rattle.rw_model_toml.proofs.Lists.{gives-fault, stops, goes-on}
use Rattle.rw_model_toml.proofs.object_kind.read_power_reservoir.Goals as goal

pub returns-in_err-initial_storage : goal.returns-in_err-initial_storage
unfolding power_reservoir_of
returns-in_err-initial_storage c =
    gives-fault (λ kind. kind) c.from_residual.result _ c.in_err-initial_storage.field-0.0 c.from_residual.ensures.1
    (stops _ _ c.in_err-initial_storage.field-0.0 c.in_err-initial_storage.ensures.read)

pub returns-in_err-rating : goal.returns-in_err-rating
unfolding power_reservoir_of
returns-in_err-rating c =
    gives-fault (λ kind. kind) c.from_residual-in_err-rating.result _ c.in_err-rating.field-0.0 c.from_residual-in_err-rating.ensures.1
    (goes-on _ _ _ _ c.in_ok-initial_storage.ensures.read (stops _ _ c.in_err-rating.field-0.0 c.in_err-rating.ensures))

pub returns-in_err-max_release : goal.returns-in_err-max_release
unfolding power_reservoir_of
returns-in_err-max_release c =
    gives-fault (λ kind. kind) c.from_residual-in_err-max_release.result _ c.in_err-max_release.field-0.0 c.from_residual-in_err-max_release.ensures.1
    (goes-on _ _ _ _ c.in_ok-initial_storage.ensures.read (goes-on _ _ _ _ c.in_ok-rating.ensures
    (stops _ _ c.in_err-max_release.field-0.0 c.in_err-max_release.ensures.read)))

pub returns-in_err-tailwater : goal.returns-in_err-tailwater
unfolding power_reservoir_of
returns-in_err-tailwater c =
    gives-fault (λ kind. kind) c.from_residual-in_err-tailwater.result _ c.in_err-tailwater.field-0.0 c.from_residual-in_err-tailwater.ensures.1
    (goes-on _ _ _ _ c.in_ok-initial_storage.ensures.read (goes-on _ _ _ _ c.in_ok-rating.ensures
    (goes-on _ _ _ _ c.in_ok-max_release.ensures.read (stops _ _ c.in_err-tailwater.field-0.0 c.in_err-tailwater.ensures))))

pub returns-in_err-power : goal.returns-in_err-power
unfolding power_reservoir_of
returns-in_err-power c =
    gives-fault (λ kind. kind) c.from_residual-in_err-power.result _ c.in_err-power.field-0.0 c.from_residual-in_err-power.ensures.1
    (goes-on _ _ _ _ c.in_ok-initial_storage.ensures.read (goes-on _ _ _ _ c.in_ok-rating.ensures
    (goes-on _ _ _ _ c.in_ok-max_release.ensures.read (goes-on _ _ _ _ c.in_ok-tailwater.ensures
    (stops _ _ c.in_err-power.field-0.0 c.in_err-power.ensures.read)))))

pub returns-in_err-only_listed : goal.returns-in_err-only_listed
unfolding power_reservoir_of
returns-in_err-only_listed c =
    gives-fault (λ kind. kind) c.from_residual-in_err-only_listed.result _ c.in_err-only_listed.field-0.0 c.from_residual-in_err-only_listed.ensures.1
    (goes-on _ _ _ _ c.in_ok-initial_storage.ensures.read (goes-on _ _ _ _ c.in_ok-rating.ensures
    (goes-on _ _ _ _ c.in_ok-max_release.ensures.read (goes-on _ _ _ _ c.in_ok-tailwater.ensures
    (goes-on _ _ _ _ c.in_ok-power.ensures.read (stops _ _ c.in_err-only_listed.field-0.0 c.in_err-only_listed.ensures))))))
