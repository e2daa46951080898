use Rattle.rw_method.proofs.Evaporating.{table_gives}
use Rattle.rw_method.proofs.law.tables_give_evaporation.Goals as goal

pub returns : goal.returns
returns c = table_gives
