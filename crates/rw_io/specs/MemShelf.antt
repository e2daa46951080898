-- What a shelf in memory means.
use Rattle.std.specs.Prelude.{◌≡◌, ℕ, List, string_bytes}
use Rattle.std.specs.Option.{option_map}
use Rattle.rw_io.specs.Files.{bytes_at, count_at, left_at, file_position}
use Rattle.rw_io.specs.Outside.{ShelfView}
use Rattle.rw_io.specs.declared.mem_shelf.MemShelf.{MemShelf}

-- what it is seen as: a path that isn't held has the faults of all such paths
abbrev pub seen_of : MemShelf → ShelfView
seen_of shelf = record {
  holds = λ path. bytes_at shelf.files.items path;
  started = option_map (λ path. string_bytes path) shelf.started;
  left = left_at shelf.files.items shelf.started shelf.place shelf.at;
  taken = shelf.taken;
  faults = λ path. count_at shelf.files.items shelf.counts.items path;
}

-- two paths have one count: they are one held path, or neither is held
abbrev pub ShareCount : MemShelf → List ℕ → List ℕ → Type 0
ShareCount shelf a b = file_position shelf.files.items a ≡ file_position shelf.files.items b

-- the numbers of the calls that are to fail, and how many calls there were
abbrev pub failing_of : MemShelf → List ℕ
failing_of shelf = shelf.plan.failing.items

abbrev pub calls_of : MemShelf → ℕ
calls_of shelf = shelf.plan.calls
