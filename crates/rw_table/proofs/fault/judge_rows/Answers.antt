use Rattle.rw_table.proofs.Common.{Finds, rows_refusal_of, row_refusal, subst}
use Rattle.rw_table.proofs.Judgement.{first-here, next-none}
use Rattle.rw_table.proofs.fault.judge_rows.Goals as goal

pub returns-in-Some : goal.returns-in-Some
returns-in-Some c = first-here c.args.rows.now c.loop-place.place c.in-Some.fault c.loop-place-test.true c.loop-place.invariant
    (subst (λ found. Finds rows_refusal_of found (row_refusal c.args.rows.now c.loop-place.place)) c.in-Some.is c.judge_row.ensures)

pub loop-place-preserved : goal.loop-place-preserved
loop-place-preserved c = next-none c.args.rows.now c.loop-place.place c.loop-place.invariant c.in_default.ensures
