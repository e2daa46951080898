use Rattle.rpl_parse.proofs.Rows.{set_row, twice_row}
use Rattle.rpl_parse.proofs.law.worked_rules.Goals as goal

pub returns : goal.returns
returns c = record { set = set_row; twice = twice_row }
