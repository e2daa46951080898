-- Names of objects and slots.
use Rattle.std.specs.Prelude.{ℕ, List, if◌then◌else◌, Result, Ok, Err, codes}
use Rattle.toml.specs.Data.{Members}
use Rattle.rw_model.specs.Name.{is_name}
use Rattle.rw_model_toml.specs.Refusal.{ModelRefusal, ◌>>=◌, out_of_range}
use Rattle.rw_model_toml.specs.Path.{key_path}
use Rattle.rw_model_toml.specs.Value.{text_of}
use Rattle.rw_model_toml.specs.Key.{required}

-- the name of an object or a slot, in the table at a path
abbrev pub name_of : List ℕ → Members → Result (List ℕ) ModelRefusal
name_of at table = required text_of at (codes "name") table >>= λ text.
    if is_name text then Ok text else Err (out_of_range (key_path at (codes "name")))
