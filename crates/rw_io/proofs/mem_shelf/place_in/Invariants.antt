use Rattle.std.proofs.Common.{◌≡◌, ◌+◌, drop}
use Rattle.rw_io.specs.Files.{file_position}
use Rattle.rw_io.proofs.mem_shelf.place_in.Given as goal

abbrev pub invariant-loop-i : goal.invariant-loop-i
invariant-loop-i l = file_position l.files l.path ≡ file_position (drop l.i l.files) l.path + l.i
