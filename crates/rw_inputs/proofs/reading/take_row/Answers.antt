use Rattle.std.proofs.Common.{◌≡◌, true, Ok, sym, ap, ◌∙◌}
use Rattle.csv.specs.Records.{fields_of}
use Rattle.rw_inputs.specs.Reading.{row_values}
use Rattle.rw_inputs.proofs.Rows.{row_taken}
use Rattle.rw_inputs.proofs.reading.take_row.Goals as goal

pub returns-in-Ok-true-clause-taken : goal.returns-in-Ok-true-clause-taken
returns-in-Ok-true-clause-taken c before kept =
    let taken : c.take.result ≡ Ok true = c.in-Ok-true.is ∙ ap (λ taken. Ok taken) c.in-Ok-true.field-0-test in
    row_taken c.args.basin.now before (fields_of c.args.row.now) c.in-Ok.row_value c.take.new.self (sym c.read_row.ensures.read ∙ c.in-Ok.is)
    (c.take.ensures.taken taken (row_values c.args.basin.now before) kept)
