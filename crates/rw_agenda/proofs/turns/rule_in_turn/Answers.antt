use Rattle.rw_agenda.proofs.Order.{high_turn, low_turn}
use Rattle.rw_agenda.proofs.turns.rule_in_turn.Goals as goal

pub returns-in-HighFirst-clause-turn : goal.returns-in-HighFirst-clause-turn
returns-in-HighFirst-clause-turn c = high_turn c.args.order c.args.rules c.args.turn c.in-HighFirst.is c.requires

pub returns-in-LowFirst-clause-turn : goal.returns-in-LowFirst-clause-turn
returns-in-LowFirst-clause-turn c = low_turn c.args.order c.args.rules c.args.turn c.in-LowFirst.is c.requires
