use Rattle.std.proofs.Common.{◌≡◌, ◌≤◌, ◌+◌, ◌-◌, ◌*◌, ◌++◌, drop, length}
use Rattle.std.specs.Str.{IsAscii}
use Rattle.rw_series.specs.Series.{held}
use Rattle.rw_report.specs.Section.{for_each}
use Rattle.rw_report.specs.Pieces.{flag_at}
use Rattle.rw_report.proofs.flags.write_block.Given as goal

-- what is written is what is behind the slots that are left
abbrev pub invariant-loop-done : goal.invariant-loop-done
invariant-loop-done l =
    (l.done + l.first ≤ l.last) × ((l.at ≤ 672) × ((672 ≤ l.at + 7 * l.done) × (IsAscii (drop l.at l.buffer)
    × (for_each (flag_at (held l.cells)) (l.last - l.done) ++ drop l.at l.buffer ≡ for_each (flag_at (held l.cells)) l.last))))
