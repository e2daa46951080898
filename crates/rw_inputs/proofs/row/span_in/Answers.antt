use Rattle.rw_inputs.proofs.Digits.{one_number}
use Rattle.rw_inputs.proofs.row.span_in.Goals as goal

pub returns-in-Some : goal.returns-in-Some
returns-in-Some c = one_number c.args.text.now c.in-Some.number c.in-Some.ensures.number
