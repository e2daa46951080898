-- What a shelf and a sink in memory mean that never fail.
use Rattle.std.specs.Prelude.{ℕ, List, [], Option, None, Some, String, drop, if◌then◌else◌, slice_get, string_bytes, unwrap_or}
use Rattle.std.specs.Option.{option_map}
use Rattle.std.specs.declared.alloc.Global.{Global}
use Rattle.rw_io.specs.Files.{Files, file_position}
use Rattle.rw_io.specs.Outside.{ShelfView, SinkView}
use Rattle.rw_io.specs.declared.sure_shelf.SureShelf.{SureShelf}
use Rattle.rw_io.specs.declared.sure_sink.SureSink.{SureSink}

-- what the file in a place holds, and nothing behind the last one
abbrev pub bytes_in_place : Files → ℕ → List ℕ
bytes_in_place files place = unwrap_or (option_map (λ file. file.1.items) (slice_get files place)) []

-- what is left of a started file, from a place in it on
abbrev pub sure_left : Files → Option (String Global) → ℕ → ℕ → Option (List ℕ)
sure_left files None place at = None
sure_left files (Some path) place at = Some (drop at (bytes_in_place files place))

-- a shelf: a path that it doesn't hold is an empty file
abbrev pub shelf_seen : SureShelf → ShelfView
shelf_seen shelf = record {
  holds = λ path. Some (bytes_in_place shelf.files.items (file_position shelf.files.items path));
  started = option_map (λ path. string_bytes path) shelf.started;
  left = sure_left shelf.files.items shelf.started shelf.place shelf.at;
  taken = shelf.taken;
  faults = λ path. 0;
}

-- a sink: it tells what it holds until a piece doesn't fit
abbrev pub sink_seen : SureSink → SinkView
sink_seen sink = record { contents = if sink.told then Some sink.bytes.items else None; faults = 0 }

-- what it keeps, and how much that can be
abbrev pub sink_kept : SureSink → List ℕ
sink_kept sink = sink.bytes.items

abbrev pub sink_room : SureSink → ℕ
sink_room sink = sink.room
