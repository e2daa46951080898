-- Arrays whose items are read one by one.
use Rattle.std.specs.Prelude.{ℕ, ◌+◌, List, [], ◌∷◌, Result, Ok}
use Rattle.toml.specs.Data.{Data, Items, no_items, item}
use Rattle.rw_model_toml.specs.Refusal.{ModelRefusal, ◌>>=◌}
use Rattle.rw_model_toml.specs.Path.{element_path}

-- what the items of the array at a path are, each at its own path, where they are numbered from the one that is given
abbrev pub list_read : {A : Type 0} → (List ℕ → Data → Result A ModelRefusal) → List ℕ → ℕ → Items → Result (List A) ModelRefusal
list_read judge path number no_items = Ok []
list_read judge path number (item value rest) = do
  x ← judge (element_path path number) value
  xs ← list_read judge path (number + 1) rest
  Ok (x ∷ xs)
