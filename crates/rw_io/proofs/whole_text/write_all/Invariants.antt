use Rattle.std.proofs.Common.{length, ◌-◌, ◌≤◌, take}
use Rattle.rw_io.specs.Known.{GrowsBy}
use Rattle.rw_io.proofs.whole_text.write_all.Given as goal

abbrev pub invariant-loop-done : goal.invariant-loop-done
invariant-loop-done g l =
    (l.done ≤ length l.text)
    × GrowsBy (g.K.Sink.seen l.initial.sink).contents (g.K.Sink.seen l.sink).contents (take l.done l.text)
    × ((g.K.Sink.seen l.initial.sink).faults ≤ (g.K.Sink.seen l.sink).faults)

abbrev pub decreases-loop-done : goal.decreases-loop-done
decreases-loop-done g l = length l.text - l.done
