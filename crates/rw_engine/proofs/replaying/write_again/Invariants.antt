use Rattle.rw_engine.proofs.Common.{Cell, IsHeldIn, held, last_put, option_or, take, ◌≡◌}
use Rattle.rw_run.specs.Trace.{lines_in}
use Rattle.rw_engine.specs.Records.{puts_in}
use Rattle.rw_engine.proofs.replaying.write_again.Given as goal

abbrev pub invariant-loop-place : goal.invariant-loop-place
invariant-loop-place l = record {
  made : IsHeldIn l.basin l.series;
  cells : (cell : Cell) → held l.series cell ≡ option_or (last_put l.basin (puts_in (take l.place (lines_in l.lines))) cell) (held l.fn.series cell);
}
