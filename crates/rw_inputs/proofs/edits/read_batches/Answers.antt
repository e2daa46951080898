use Rattle.rw_inputs.proofs.Refusing.{answers-fault}
use Rattle.rw_inputs.specs.EditRows.{read_under}
use Rattle.rw_inputs.proofs.edits.read_batches.Goals as goal

pub returns-in_err-read_header-clause-answers : goal.returns-in_err-read_header-clause-answers
returns-in_err-read_header-clause-answers c =
    answers-fault (λ batches. batches.items) c.from_residual.result c.in_err-read_header.field-0.0 (read_under c.args.word.now c.args.basin.now c.args.records.now)
    c.from_residual.ensures.1 (c.in_err-read_header.ensures.refused c.args.basin.now)
