use Rattle.std.proofs.Common.{refl}
use Rattle.rpl_parse.proofs.Rows.{chain_row, logic_row, right_row, left_row}
use Rattle.rpl_parse.proofs.law.worked_expressions.Goals as goal

pub returns : goal.returns
returns c = record { chain = chain_row; logic = logic_row; right = right_row; left = left_row; node = refl }
