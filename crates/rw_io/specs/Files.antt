-- Files in memory, by path.
use Rattle.std.specs.Prelude.{ℕ, ◌+◌, List, [], ◌∷◌, if◌then◌else◌, Option, string_bytes, slice_index, slice_get, String, None, Some, drop}
use Rattle.std.specs.Option.{option_map}
use Rattle.std.specs.declared.vec.Vec.{Vec}
use Rattle.std.specs.declared.alloc.Global.{Global}
use Rattle.std.specs.Str.{bytes_eq}

-- files, each with its path
abbrev pub Files : Type 0
Files = List (String Global × Vec ℕ Global)

-- the place of the first file of that path, or the number of files
abbrev pub file_position : Files → List ℕ → ℕ
file_position [] path = 0
file_position (file ∷ files) path = if bytes_eq (string_bytes file.0) path then 0 else file_position files path + 1

-- what the first file of that path holds
abbrev pub bytes_at : Files → List ℕ → Option (List ℕ)
bytes_at files path = option_map (λ file. file.1.items) (slice_get files (file_position files path))

-- the count of a path, where the last of the counts is that of all paths that aren't held
abbrev pub count_at : Files → List ℕ → List ℕ → ℕ
count_at files counts path = slice_index counts (file_position files path)

-- what is left of a started file, from a place in it on
abbrev pub left_at : Files → Option (String Global) → ℕ → ℕ → Option (List ℕ)
left_at files None place at = None
left_at files (Some path) place at = option_map (λ file. drop at file.1.items) (slice_get files place)
