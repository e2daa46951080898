-- Paths of values in the file, as `object[2].table[3]`.
use Rattle.std.specs.Prelude.{ℕ, List, ◌++◌, length, ◌==◌, if◌then◌else◌, codes}
use Rattle.std.specs.Fmt.{decimal}

-- a key of the table at a path. The whole file has the empty path
abbrev pub key_path : List ℕ → List ℕ → List ℕ
key_path at key = if length at == 0 then key else at ++ codes "." ++ key

-- an element of the array at a path, counted from 1
abbrev pub element_path : List ℕ → ℕ → List ℕ
element_path path number = path ++ codes "[" ++ decimal number ++ codes "]"
