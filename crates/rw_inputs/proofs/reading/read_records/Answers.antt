use Rattle.rw_inputs.proofs.Refusing.{answers-fault, values-fault}
use Rattle.rw_inputs.specs.Inputs.{value_at}
use Rattle.rw_inputs.specs.Reading.{read_records, values_read}
use Rattle.rw_inputs.proofs.reading.read_records.Goals as goal

pub returns-in_err-read_header-clause-answers : goal.returns-in_err-read_header-clause-answers
returns-in_err-read_header-clause-answers c =
    let reading = read_records c.args.basin.now c.args.records.now in
    let fault = c.in_err-read_header.field-0.0 in
    answers-fault value_at c.from_residual.result fault (values_read c.args.basin.now reading)
    c.from_residual.ensures.1 (values-fault c.args.basin.now fault reading (c.in_err-read_header.ensures.refused c.args.basin.now))
