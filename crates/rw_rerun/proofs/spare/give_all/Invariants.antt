use Rattle.rw_base.proofs.Common.{◌≡◌, drop}
use Rattle.rw_base.specs.declared.number.Cell.{Cell}
use Rattle.rw_series.specs.Series.{held}
use Rattle.rw_engine.specs.Shows.{CanReplay, IsEngineOf}
use Rattle.rpl_verify.specs.Verified.{Accepted}
use Rattle.rw_rerun.specs.Spare.{given_all}
use Rattle.rw_rerun.proofs.spare.give_all.Given as goal

abbrev pub invariant-loop-cell : goal.invariant-loop-cell
invariant-loop-cell l = record {
  made : (policy : Accepted) → IsEngineOf l.basin policy l.fn.engine → IsEngineOf l.basin policy l.engine;
  can : CanReplay l.basin l.engine;
  holds : (cell : Cell) → given_all l.basin l.inputs (drop l.cell-index l.cells) (held l.engine.series) cell
      ≡ given_all l.basin l.inputs l.cells (held l.fn.engine.series) cell;
  trace : l.engine.trace ≡ l.fn.engine.trace;
  noted : l.engine.noted ≡ l.fn.engine.noted;
  closed_steps : l.engine.closed ≡ l.fn.engine.closed;
  end : l.engine.end ≡ l.fn.engine.end;
}
