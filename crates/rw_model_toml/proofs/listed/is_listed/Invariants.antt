use Rattle.std.proofs.Common.{◌≡◌, map, drop}
use Rattle.rw_model_toml.specs.Key.{is_listed}
use Rattle.rw_model_toml.proofs.listed.is_listed.Given as goal

abbrev pub invariant-loop-listed : goal.invariant-loop-listed
invariant-loop-listed l =
    is_listed (map (λ listed. listed.now) l.keys) l.key ≡ is_listed (map (λ listed. listed.now) (drop l.listed-index l.keys)) l.key
