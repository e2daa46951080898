use Rattle.std.proofs.Common.{arith}
use Rattle.rw_table.proofs.Judgement.{found-table}
use Rattle.rw_table.proofs.fault.judge.Goals as goal

pub returns-clause-table : goal.returns-clause-table
returns-clause-table c =
    found-table c.args.rows.now _ (omega (arith, c.if-rows-lt2.false)) (omega (arith, c.if-rows-gt-ROWS_MAX.false)) c.judge_rows.ensures
