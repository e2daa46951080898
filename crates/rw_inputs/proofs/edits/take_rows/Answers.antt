use Rattle.rw_base.proofs.Common.{◌≡◌, true, Ok, ap, ◌∙◌, arith}
use Rattle.csv.specs.Records.{fields_of}
use Rattle.rw_inputs.proofs.Batches.{row_read, row_refused}
use Rattle.rw_inputs.proofs.Refusing.{answers-fault}
use Rattle.rw_inputs.proofs.edits.take_rows.Goals as goal

pub returns-in_err-take_row-in-Ok-true-clause-taken : goal.returns-in_err-take_row-in-Ok-true-clause-taken
returns-in_err-take_row-in-Ok-true-clause-taken c =
    let found : c.read.result ≡ Ok true = c.in-Ok-true.is ∙ ap (λ found. Ok found) c.in-Ok-true.field-0-test in
    let fault = c.in_err-take_row-in-Ok-true.field-0.0 in
    answers-fault _ c.from_residual.result fault _ c.from_residual.ensures.1
    (row_refused c.args.basin.now c.loop-number.number c.loop-number.batches.items c.loop-number.rows c.read.new.self (fields_of c.read.new.row) _
    (c.read.ensures.next found) c.loop-number.invariant.0 fault c.in_err-take_row-in-Ok-true.ensures.taken)

pub loop-number-preserved : goal.loop-number-preserved
loop-number-preserved c =
    let found : c.read.result ≡ Ok true = c.in-Ok-true.is ∙ ap (λ found. Ok found) c.in-Ok-true.field-0-test in
    let so_far = c.loop-number.invariant in
    let row = c.in_ok-take_row-in-Ok-true.ensures in (
      row_read c.args.basin.now c.loop-number.number c.loop-number.batches.items c.loop-number.rows c.read.new.self (fields_of c.read.new.row) _
          (c.read.ensures.next found) so_far.0 c.take_row.new.batches.items row.taken,
      row.made so_far.1,
      row.few,
      omega (arith, row.within),
    )
