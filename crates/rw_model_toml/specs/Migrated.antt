-- A model's file made one of format 2.
use Rattle.std.specs.Prelude.{◌≡◌, ℕ, pos, List, Some, if◌then◌else◌, codes, IsSomeAnd}
use Rattle.toml.specs.Data.{Members, no_members, member, integer, same_key}
use Rattle.rw_model_toml.specs.Model.{toml_of}

-- the members with 2 as their `format`, where they have one, and all else as it is
abbrev pub with_format_2 : Members → Members
with_format_2 no_members = no_members
with_format_2 (member key value rest) =
    if same_key (codes "format") key then member key (integer (pos 2)) rest else member key value (with_format_2 rest)

-- the new bytes are read to the table of the old ones, with 2 as its format
abbrev pub IsMigrated : List ℕ → List ℕ → Type 0
IsMigrated old new = IsSomeAnd (toml_of old) (λ table. toml_of new ≡ Some (with_format_2 table))
