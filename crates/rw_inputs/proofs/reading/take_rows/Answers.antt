use Rattle.rw_base.proofs.Common.{◌≡◌, true, Ok, ap, ◌∙◌}
use Rattle.csv.specs.Records.{fields_of}
use Rattle.rw_inputs.proofs.Refusing.{row_refused, tells-fault}
use Rattle.rw_inputs.proofs.reading.take_rows.Goals as goal

pub returns-in_err-take_row-in-Ok-true-clause-refused : goal.returns-in_err-take_row-in-Ok-true-clause-refused
returns-in_err-take_row-in-Ok-true-clause-refused c =
    let found : c.read.result ≡ Ok true = c.in-Ok-true.is ∙ ap (λ found. Ok found) c.in-Ok-true.field-0-test in
    let so_far = c.loop-number.invariant in
    tells-fault c.from_residual.result c.in_err-take_row-in-Ok-true.field-0.0 _ c.from_residual.ensures.1
    (row_refused c.args.basin.now c.loop-number.number so_far.0 c.loop-number.rows c.read.new.self (fields_of c.read.new.row) c.loop-number.inputs
    c.in_err-take_row-in-Ok-true.field-0.0 _
    (c.read.ensures.next found) so_far.3 so_far.2 c.in_err-take_row-in-Ok-true.ensures.refused)
