use Rattle.std.proofs.Common.{◌-◌, length}
use Rattle.rw_io.specs.Outside.{change}
use Rattle.rw_io.proofs.Reading.{IsReading}
use Rattle.rw_io.proofs.whole_file.read_all.Given as goal

abbrev pub invariant-loop-count : goal.invariant-loop-count
invariant-loop-count g l =
    IsReading l.path l.bytes.items (change (g.S.Shelf.seen l.fn.shelf) (g.S.Shelf.seen l.shelf))

abbrev pub decreases-loop-count : goal.decreases-loop-count
decreases-loop-count g l = 16777216 - length l.bytes.items
