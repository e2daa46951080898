-- Keys of a table.
use Rattle.std.specs.Prelude.{ℕ, List, Bool, if◌then◌else◌, Option, Some, None, Result, Ok, Err, bytes_eq}
use Rattle.std.specs.List.{list_any}
use Rattle.toml.specs.Data.{Data, Members, no_members, member, get_member}
use Rattle.rw_model_toml.specs.Refusal.{ModelRefusal, missing, unknown_key, out_of_range}
use Rattle.rw_model_toml.specs.Path.{key_path}

-- what the value is judged to be, if there is one
abbrev pub judged_or : {A : Type 0} → Result A ModelRefusal → (Data → Result A ModelRefusal) → Option Data → Result A ModelRefusal
judged_or absent judge None = absent
judged_or absent judge (Some value) = judge value

-- what stands at a key that has to be there, in the table at a path
abbrev pub required : {A : Type 0} → (List ℕ → Data → Result A ModelRefusal) → List ℕ → List ℕ → Members → Result A ModelRefusal
required judge at key table = judged_or (Err (missing (key_path at key))) (judge (key_path at key)) (get_member key table)

-- what stands at a key, or the default where it isn't there
abbrev pub optional : {A : Type 0} → A → (List ℕ → Data → Result A ModelRefusal) → List ℕ → List ℕ → Members → Result A ModelRefusal
optional default judge at key table = judged_or (Ok default) (judge (key_path at key)) (get_member key table)

-- what a text at the path stands for, if it stands for anything
abbrev pub known_or : {A : Type 0} → List ℕ → Option A → Result A ModelRefusal
known_or path None = Err (out_of_range path)
known_or path (Some x) = Ok x

-- the key is one of these
abbrev pub is_listed : List (List ℕ) → List ℕ → Bool
is_listed keys key = list_any (bytes_eq key) keys

-- nothing, or the first key that isn't listed. The keys of a table ascend in the order of their bytes
abbrev pub only_listed : List (List ℕ) → List ℕ → Members → Result (Unit {0}) ModelRefusal
only_listed keys at no_members = Ok tt
only_listed keys at (member key value rest) =
    if is_listed keys key then only_listed keys at rest else Err (unknown_key (key_path at key))
