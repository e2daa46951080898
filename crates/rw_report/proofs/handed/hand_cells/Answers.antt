use Rattle.rw_series.specs.Series.{held}
use Rattle.rw_report.specs.Pieces.{words_at}
use Rattle.rw_report.proofs.Handing.{broke_each}
use Rattle.rw_report.proofs.handed.hand_cells.Goals as goal

pub returns-in-Err : goal.returns-in-Err
returns-in-Err g c = λ before front way.
    broke_each before _ (words_at (held c.args.cells.now)) c.last_of_block-last.result c.args.count front c.last_of_block-last.ensures.within
    (c.in-Err.ensures before front (c.loop-first.invariant.1 before front way))
